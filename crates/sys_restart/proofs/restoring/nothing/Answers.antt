use Rattle.sys_restart.proofs.RestoredLemmas.{nothing_found}
use Rattle.std.proofs.lemmas.Bool.{true≢false}
use Rattle.sys_restart.proofs.restoring.nothing.Goals as goal

pub returns-in-Ok-clause-read : goal.returns-in-Ok-clause-read
returns-in-Ok-clause-read c = nothing_found c.args.shape.now c.in-Ok.groups c.in-Ok.ensures

pub returns-in-Err-clause-read : goal.returns-in-Err-clause-read
returns-in-Err-clause-read c = λ inside. absurd (true≢false inside)
