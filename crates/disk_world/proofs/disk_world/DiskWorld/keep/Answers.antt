use Rattle.std.proofs.Common.{ap, subst}
use Rattle.world_views.specs.World.{Whole}
use Rattle.world_views.specs.WorldOf.{whole_of}
use Rattle.disk_world.proofs.DrivenLemmas.{GoesUnscheduled, goes_nowhere, goes_same, stop_unscheduled}
use Rattle.disk_world.proofs.disk_world.DiskWorld.keep.Goals as goal

pub returns-then-host-eq0-clause-ok : goal.returns-then-host-eq0-clause-ok
returns-then-host-eq0-clause-ok g c = goes_nowhere (whole_of c.args.self.now.world) c.requires

pub returns-in-Ok-clause-ok : goal.returns-in-Ok-clause-ok
returns-in-Ok-clause-ok g c =
    goes_same (whole_of c.args.self.now.world) (whole_of c.keep_on_disk.new.self.world)
    (ap whole_of c.in-Ok.ensures.same) c.requires

pub returns-in-Err-clause-unscheduled : goal.returns-in-Err-clause-unscheduled
returns-in-Err-clause-unscheduled g c =
    subst (λ (w : Whole). GoesUnscheduled w (whole_of c.fail_disk.new.self).logs) (ap whole_of c.in-Err.ensures.same)
    (stop_unscheduled c.fail_disk.result (whole_of c.keep_on_disk.new.self.world) (whole_of c.fail_disk.new.self).logs
    c.fail_disk.ensures.unscheduled c.fail_disk.ensures.err)
