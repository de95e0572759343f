use Rattle.std.proofs.Common.{◌∙◌, refl, map}
use Rattle.sys_restart.proofs.DisksLemmas.{steady_itself, steady_then}
use Rattle.world_views.specs.WorldOf.{whole_of}
use Rattle.world_views.proofs.WorldLemmas.{goes_on, has_ended, is_quiet, under_way}
use Rattle.disk_world.proofs.DrivenLemmas.{way_labels, way_off, way_unscheduled, where_err}
use Rattle.life_start.proofs.RecordLemmas.{more_itself, more_then}
use Rattle.disk_world.specs.Disks.{disks_with}
use Rattle.disk_world.proofs.WayLemmas.{no_way, way_ends, way_further}
use Rattle.disk_world.proofs.disk_world.DiskWorld.drive.Goals as goal

pub loop-init : goal.loop-init
loop-init g c = (
  under_way (whole_of c.args.self.now.world) c.requires,
  λ start sound was. was,
  more_itself (map g.D.Disk.told c.args.self.now.disks.items),
  steady_itself (map g.D.Disk.faults c.args.self.now.disks.items),
  refl,
  refl,
  refl,
  no_way (whole_of c.args.self.now.world)
      (disks_with (map g.D.Disk.told c.args.self.now.disks.items) c.args.self.now.slots.items),
  tt,
  tt,
)

pub returns-in_err-step-clause-err : goal.returns-in_err-step-clause-err
returns-in_err-step-clause-err g c = λ start sound.
    where_err _ c.from_residual.result
    (way_off (whole_of c.args.self.now.world) (whole_of c.loop.self.world) (whole_of c.step.new.self.world).logs
    c.loop.invariant.0 c.in_err-step.ensures.err start sound)

pub returns-in_err-step-clause-labels : goal.returns-in_err-step-clause-labels
returns-in_err-step-clause-labels g c = λ start sound.
    where_err _ c.from_residual.result
    (way_labels (whole_of c.args.self.now.world) (whole_of c.loop.self.world) (whole_of c.step.new.self.world).logs
    c.loop.invariant.0 c.in_err-step.ensures.labels start sound)

pub returns-in_err-step-clause-unscheduled : goal.returns-in_err-step-clause-unscheduled
returns-in_err-step-clause-unscheduled g c =
    way_unscheduled (whole_of c.args.self.now.world) (whole_of c.loop.self.world) (whole_of c.step.new.self.world).logs
    c.loop.invariant.0 c.loop.invariant.1 c.in_err-step.ensures.unscheduled

pub returns-in_err-step-clause-more : goal.returns-in_err-step-clause-more
returns-in_err-step-clause-more g c =
    more_then (map g.D.Disk.told c.args.self.now.disks.items) (map g.D.Disk.told c.loop.self.disks.items)
    (map g.D.Disk.told c.step.new.self.disks.items) c.loop.invariant.2 c.in_err-step.ensures.more

pub returns-then-not-branch-clause-driven : goal.returns-then-not-branch-clause-driven
returns-then-not-branch-clause-driven g c =
    has_ended (whole_of c.args.self.now.world) (whole_of c.loop.self.world) (whole_of c.step.new.self.world) _
    c.if-not-branch.true
    c.loop.invariant.0 c.in_ok-step.ensures.ok

pub returns-then-not-branch-clause-quiet : goal.returns-then-not-branch-clause-quiet
returns-then-not-branch-clause-quiet g c =
    is_quiet (whole_of c.args.self.now.world) (whole_of c.loop.self.world) (whole_of c.step.new.self.world) _
    c.if-not-branch.true
    c.loop.invariant.0 c.in_ok-step.ensures.ok

pub returns-then-not-branch-clause-unscheduled : goal.returns-then-not-branch-clause-unscheduled
returns-then-not-branch-clause-unscheduled g c =
    way_unscheduled (whole_of c.args.self.now.world) (whole_of c.loop.self.world) (whole_of c.step.new.self.world).logs
    c.loop.invariant.0 c.loop.invariant.1 c.in_ok-step.ensures.unscheduled

pub returns-then-not-branch-clause-more : goal.returns-then-not-branch-clause-more
returns-then-not-branch-clause-more g c =
    more_then (map g.D.Disk.told c.args.self.now.disks.items) (map g.D.Disk.told c.loop.self.disks.items)
    (map g.D.Disk.told c.step.new.self.disks.items) c.loop.invariant.2 c.in_ok-step.ensures.more

pub returns-then-not-branch-clause-way : goal.returns-then-not-branch-clause-way
returns-then-not-branch-clause-way g c =
    way_ends (whole_of c.args.self.now.world)
    (disks_with (map g.D.Disk.told c.args.self.now.disks.items) c.args.self.now.slots.items)
    (whole_of c.loop.self.world)
    (disks_with (map g.D.Disk.told c.loop.self.disks.items) c.loop.self.slots.items)
    (whole_of c.step.new.self.world)
    (disks_with (map g.D.Disk.told c.step.new.self.disks.items) c.step.new.self.slots.items) _
    c.if-not-branch.true c.loop.invariant.7 c.loop.invariant.0.is c.in_ok-step.ensures.ok
    c.in_ok-step.ensures.nothing

pub loop-preserved : goal.loop-preserved
loop-preserved g c = (
  goes_on (whole_of c.args.self.now.world) (whole_of c.loop.self.world) (whole_of c.step.new.self.world)
      c.in_ok-step.field-0 c.if-not-branch.false c.loop.invariant.0 c.in_ok-step.ensures.ok,
  way_unscheduled (whole_of c.args.self.now.world) (whole_of c.loop.self.world) (whole_of c.step.new.self.world).logs
      c.loop.invariant.0 c.loop.invariant.1 c.in_ok-step.ensures.unscheduled,
  more_then (map g.D.Disk.told c.args.self.now.disks.items) (map g.D.Disk.told c.loop.self.disks.items)
      (map g.D.Disk.told c.step.new.self.disks.items) c.loop.invariant.2 c.in_ok-step.ensures.more,
  steady_then (map g.D.Disk.faults c.args.self.now.disks.items) (map g.D.Disk.faults c.loop.self.disks.items)
      (map g.D.Disk.faults c.step.new.self.disks.items) c.loop.invariant.3 c.in_ok-step.ensures.steady,
  c.in_ok-step.ensures.life.0 ∙ c.loop.invariant.4,
  c.in_ok-step.ensures.life.1 ∙ c.loop.invariant.5,
  c.in_ok-step.ensures.life.2 ∙ c.loop.invariant.6,
  way_further (whole_of c.args.self.now.world)
      (disks_with (map g.D.Disk.told c.args.self.now.disks.items) c.args.self.now.slots.items)
      (whole_of c.loop.self.world)
      (disks_with (map g.D.Disk.told c.loop.self.disks.items) c.loop.self.slots.items)
      (whole_of c.step.new.self.world)
      (disks_with (map g.D.Disk.told c.step.new.self.disks.items) c.step.new.self.slots.items)
      (map g.D.Disk.faults c.step.new.self.disks.items) c.in_ok-step.field-0 c.if-not-branch.false
      c.loop.invariant.7 c.in_ok-step.ensures.kept,
  tt,
  tt,
)
