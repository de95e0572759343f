use Rattle.std.proofs.Common.{refl}
use Rattle.redo_format.specs.Lent.{redo_of}
use Rattle.redo_log.proofs.ReplayLemmas.{front_fewer}
use Rattle.redo_log.proofs.replaying.first_record.Goals as goal

pub returns-in-Ok-clause-fewer : goal.returns-in-Ok-clause-fewer
returns-in-Ok-clause-fewer c =
    front_fewer c.args.bytes.now (redo_of c.in-Ok.redo, c.in-Ok.taken) c.in-Ok.ensures.found _ refl
