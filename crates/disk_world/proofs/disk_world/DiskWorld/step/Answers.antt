use Rattle.world_views.specs.WorldOf.{whole_of}
use Rattle.std.specs.Prelude.{true, map}
use Rattle.disk_world.specs.Disks.{disks_with}
use Rattle.disk_world.proofs.WayLemmas.{gone_on}
use Rattle.disk_world.proofs.DrivenLemmas.{same_grown, step_labels, stepped_none, stepped_off, stepped_some}
use Rattle.disk_world.proofs.DrivenLemmas.{stepped_then, then_unscheduled}
use Rattle.disk_world.proofs.disk_world.DiskWorld.step.Goals as goal

pub returns-in-Ok-clause-ok : goal.returns-in-Ok-clause-ok
returns-in-Ok-clause-ok g c =
    stepped_then (whole_of c.args.self.now.world) (whole_of c.step.new.self) (whole_of c.keep.new.self.world)
    (stepped_some c.in-Ok-Some.field-0 c.in-Ok-Some.taken (whole_of c.args.self.now.world) (whole_of c.step.new.self)
    c.in-Ok-Some.field-0-is c.in-Ok-Some.ensures.ok) c.in-Ok.ensures.ok

pub returns-in-Ok-clause-unscheduled : goal.returns-in-Ok-clause-unscheduled
returns-in-Ok-clause-unscheduled g c =
    then_unscheduled (whole_of c.args.self.now.world) (whole_of c.step.new.self) (whole_of c.keep.new.self.world).logs
    (stepped_some c.in-Ok-Some.field-0 c.in-Ok-Some.taken (whole_of c.args.self.now.world) (whole_of c.step.new.self)
    c.in-Ok-Some.field-0-is c.in-Ok-Some.ensures.ok)
    (c.in-Ok-Some.ensures.unscheduled true) c.in-Ok.ensures.unscheduled

pub returns-in-Err-keep-clause-err : goal.returns-in-Err-keep-clause-err
returns-in-Err-keep-clause-err g c =
    stepped_off (whole_of c.args.self.now.world) (whole_of c.step.new.self) (whole_of c.keep.new.self.world).logs
    (stepped_some c.in-Ok-Some.field-0 c.in-Ok-Some.taken (whole_of c.args.self.now.world) (whole_of c.step.new.self)
    c.in-Ok-Some.field-0-is c.in-Ok-Some.ensures.ok) c.in-Err-keep.ensures.err

pub returns-in-Err-keep-clause-labels : goal.returns-in-Err-keep-clause-labels
returns-in-Err-keep-clause-labels g c =
    step_labels (whole_of c.args.self.now.world) (whole_of c.step.new.self) (whole_of c.keep.new.self.world).logs
    (stepped_some c.in-Ok-Some.field-0 c.in-Ok-Some.taken (whole_of c.args.self.now.world) (whole_of c.step.new.self)
    c.in-Ok-Some.field-0-is c.in-Ok-Some.ensures.ok) c.in-Err-keep.ensures.same

pub returns-in-Err-keep-clause-unscheduled : goal.returns-in-Err-keep-clause-unscheduled
returns-in-Err-keep-clause-unscheduled g c =
    then_unscheduled (whole_of c.args.self.now.world) (whole_of c.step.new.self) (whole_of c.keep.new.self.world).logs
    (stepped_some c.in-Ok-Some.field-0 c.in-Ok-Some.taken (whole_of c.args.self.now.world) (whole_of c.step.new.self)
    c.in-Ok-Some.field-0-is c.in-Ok-Some.ensures.ok)
    (c.in-Ok-Some.ensures.unscheduled true) c.in-Err-keep.ensures.unscheduled

pub returns-in-Ok-None-clause-ok : goal.returns-in-Ok-None-clause-ok
returns-in-Ok-None-clause-ok g c =
    stepped_none c.in-Ok-None.field-0 (whole_of c.args.self.now.world) (whole_of c.step.new.self)
    c.in-Ok-None.field-0-is c.in-Ok-None.ensures.ok

pub returns-in-Ok-None-clause-unscheduled : goal.returns-in-Ok-None-clause-unscheduled
returns-in-Ok-None-clause-unscheduled g c = c.in-Ok-None.ensures.unscheduled true

pub returns-in-Err-clause-err : goal.returns-in-Err-clause-err
returns-in-Err-clause-err g c =
    same_grown (whole_of c.args.self.now.world) (whole_of c.step.new.self).logs c.in-Err.ensures.err

-- a host went on, and the disk of its node kept what it was to keep
pub returns-in-Ok-clause-kept : goal.returns-in-Ok-clause-kept
returns-in-Ok-clause-kept g c = λ went.
    gone_on (whole_of c.args.self.now.world) (whole_of c.step.new.self) (whole_of c.keep.new.self.world)
    (disks_with (map g.D.Disk.told c.args.self.now.disks.items) c.args.self.now.slots.items)
    (disks_with (map g.D.Disk.told c.keep.new.self.disks.items) c.keep.new.self.slots.items)
    (map g.D.Disk.faults c.keep.new.self.disks.items) c.in-Ok-Some.field-0 c.in-Ok-Some.taken c.in-Ok-Some.field-0-is
    c.in-Ok-Some.ensures.alone c.in-Ok-Some.ensures.made c.in-Ok-Some.ensures.ok (returns-in-Ok-clause-ok g c)
    c.in-Ok.ensures.kept c.in-Ok.ensures.nothing
