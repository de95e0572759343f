use Rattle.std.proofs.Common.{◌∙◌, ap, sym}
use Rattle.std.specs.Prelude.{Ok}
use Rattle.sys_restart.specs.Latest.{later}
use Rattle.sys_restart.proofs.latest.later_on.Goals as goal

pub returns-in-Ok-clause-read : goal.returns-in-Ok-clause-read
returns-in-Ok-clause-read g c = λ calls told.
    ap (later (Ok c.args.one)) (c.in-Ok.ensures.read calls told) ∙ ap Ok (sym c.later_system.ensures)

pub returns-in-Err-clause-read : goal.returns-in-Err-clause-read
returns-in-Err-clause-read g c = λ calls told inside.
    ap (later (Ok c.args.one)) (c.in-Err.ensures.read calls told inside)
