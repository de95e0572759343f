use Rattle.std.specs.Prelude.{is_some}
use Rattle.world_views.specs.WorldOf.{whole_of}
use Rattle.life_trials.proofs.Worlds.{step_world}
use Rattle.life_trials.proofs.traces.checks.lives.take_first.Goals as goal

pub returns : goal.returns
returns c =
    step_world (is_some c.in_ok-taken.taken) (whole_of c.args.world.now) (whole_of c.step.new.self) c.requires
    c.in_ok-taken.ensures.ok
