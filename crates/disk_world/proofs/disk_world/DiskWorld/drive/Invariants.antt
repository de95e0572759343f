use Rattle.std.specs.Prelude.{◌≡◌, map}
use Rattle.sys_restart.specs.Answers.{AreSteady}
use Rattle.world_views.specs.WorldOf.{whole_of}
use Rattle.world_views.proofs.WorldLemmas.{IsUnderWay}
use Rattle.life_start.specs.Records.{HaveMore}
use Rattle.disk_world.specs.Disks.{WayOn, disks_with}
use Rattle.disk_world.proofs.DrivenLemmas.{GoesUnscheduled}
use Rattle.disk_world.proofs.disk_world.DiskWorld.drive.Given as goal

-- the world is sound, and was driven here, without a schedule, and its disks tell more: what they kept step by step
abbrev pub invariant-loop : goal.invariant-loop
invariant-loop g l =
    IsUnderWay (whole_of l.initial.self.world) (whole_of l.self.world)
    × GoesUnscheduled (whole_of l.initial.self.world) (whole_of l.self.world).logs
    × HaveMore (map g.D.Disk.told l.initial.self.disks.items) (map g.D.Disk.told l.self.disks.items)
    × AreSteady (map g.D.Disk.faults l.initial.self.disks.items) (map g.D.Disk.faults l.self.disks.items)
    × (l.self.generation ≡ l.initial.self.generation) × (l.self.start ≡ l.initial.self.start)
    × (l.self.rows ≡ l.initial.self.rows)
    × WayOn (whole_of l.initial.self.world)
    (disks_with (map g.D.Disk.told l.initial.self.disks.items) l.initial.self.slots.items) (whole_of l.self.world)
    (disks_with (map g.D.Disk.told l.self.disks.items) l.self.slots.items)
    × (goal.iterator-loop g).can_next l.iterator' × (goal.iterator-loop g).is_finite l.iterator'
