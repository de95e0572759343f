use Rattle.std.proofs.Common.{ap, ◌∙◌}
use Rattle.std.specs.Prelude.{is_some, not}
use Rattle.world_views.specs.WorldOf.{whole_of}
use Rattle.world_views.proofs.WorldLemmas.{goes_on, has_ended, is_quiet, labels_kept, under_way, unscheduled_further}
use Rattle.world_views.proofs.world.World.drive.Goals as goal

pub loop-init : goal.loop-init
loop-init g c = (under_way (whole_of c.args.self.now) c.requires, λ disks start sound was. was, tt, tt)

pub returns-then-is_none-clause-driven : goal.returns-then-is_none-clause-driven
returns-then-is_none-clause-driven g c =
    has_ended (whole_of c.args.self.now) (whole_of c.loop.self) (whole_of c.step.new.self)
    (is_some c.in_ok-step.field-0) (c.is_none.ensures ∙ ap not c.if-is_none.true) c.loop.invariant.0
    c.in_ok-step.ensures.ok

pub returns-then-is_none-clause-quiet : goal.returns-then-is_none-clause-quiet
returns-then-is_none-clause-quiet g c =
    is_quiet (whole_of c.args.self.now) (whole_of c.loop.self) (whole_of c.step.new.self)
    (is_some c.in_ok-step.field-0) (c.is_none.ensures ∙ ap not c.if-is_none.true) c.loop.invariant.0
    c.in_ok-step.ensures.ok

pub returns-in_err-step-clause-labels : goal.returns-in_err-step-clause-labels
returns-in_err-step-clause-labels g c =
    labels_kept c.from_residual.result (whole_of c.args.self.now) (whole_of c.loop.self) _ c.loop.invariant.0
    c.in_err-step.ensures.err

pub returns-then-is_none-clause-unscheduled : goal.returns-then-is_none-clause-unscheduled
returns-then-is_none-clause-unscheduled g c =
    unscheduled_further (whole_of c.args.self.now) (whole_of c.loop.self) (whole_of c.step.new.self) c.loop.invariant.0
    c.loop.invariant.1
    c.in_ok-step.ensures.unscheduled

pub returns-in_err-step-clause-unscheduled : goal.returns-in_err-step-clause-unscheduled
returns-in_err-step-clause-unscheduled g c =
    unscheduled_further (whole_of c.args.self.now) (whole_of c.loop.self) (whole_of c.step.new.self) c.loop.invariant.0
    c.loop.invariant.1
    c.in_err-step.ensures.unscheduled

pub loop-preserved : goal.loop-preserved
loop-preserved g c = (
  goes_on (whole_of c.args.self.now) (whole_of c.loop.self) (whole_of c.step.new.self)
      (is_some c.in_ok-step.field-0) (c.is_none.ensures ∙ ap not c.if-is_none.false) c.loop.invariant.0
      c.in_ok-step.ensures.ok,
  unscheduled_further (whole_of c.args.self.now) (whole_of c.loop.self) (whole_of c.step.new.self) c.loop.invariant.0
      c.loop.invariant.1
      c.in_ok-step.ensures.unscheduled,
  tt,
  tt,
)
