use Rattle.world_views.specs.WorldOf.{whole_of}
use Rattle.world_views.proofs.DiskLemmas.{disk_driven, disk_unscheduled, kept_grown, runs_is_there}
use Rattle.world_views.proofs.world.World.fail_disk.Goals as goal

pub stop-requires : goal.stop-requires
stop-requires c = runs_is_there (whole_of c.args.self.now) c.args.host.0 c.requires.world c.requires.runs

pub returns-clause-driven : goal.returns-clause-driven
returns-clause-driven c =
    disk_driven c.stop.result (whole_of c.args.self.now) (whole_of c.stop.new.self) c.args.host.0 c.args.count
    c.requires.part c.requires.runs c.stop.ensures.ok

pub returns-clause-unscheduled : goal.returns-clause-unscheduled
returns-clause-unscheduled c =
    disk_unscheduled c.stop.result (whole_of c.args.self.now) (whole_of c.stop.new.self) c.args.host.0 c.args.count
    c.requires.part c.requires.runs c.stop.ensures.ok

pub returns-clause-grown : goal.returns-clause-grown
returns-clause-grown c = kept_grown c.stop.result (whole_of c.args.self.now) _ c.stop.ensures.err
