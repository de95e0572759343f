use Rattle.std.proofs.Common.{◌∙◌, refl}
use Rattle.sys_restart.proofs.LatestLemmas.{cause_of_after}
use Rattle.sys_restart.proofs.PrepareLemmas.{none_named}
use Rattle.sys_restart.proofs.name.name_disk.Goals as goal

pub returns-in-Ok-clause-runs : goal.returns-in-Ok-clause-runs
returns-in-Ok-clause-runs g c = λ calls told.
    c.name_at.ensures.runs calls (c.in-Ok.ensures.unrecorded ∙ told) (c.in-Ok.ensures.read calls told)

pub returns-in-Ok-clause-cause : goal.returns-in-Ok-clause-cause
returns-in-Ok-clause-cause g c =
    cause_of_after c.args.node (g.D.Disk.faults c.args.disk.now) (g.D.Disk.faults c.free_system.new.disk)
    (g.D.Disk.faults c.name_at.new.disk) c.name_at.result c.in-Ok.ensures.steady c.name_at.ensures.cause

pub returns-in-Err-clause-runs : goal.returns-in-Err-clause-runs
returns-in-Err-clause-runs g c = λ calls told.
    none_named calls c.args.shape c.args.restored.now (g.D.Disk.told c.free_system.new.disk)
    (c.in-Err.ensures.unrecorded ∙ told)

pub returns-in-Err-clause-cause : goal.returns-in-Err-clause-cause
returns-in-Err-clause-cause g c = (refl, c.in-Err.ensures.cause.0, c.in-Err.ensures.cause.1)
