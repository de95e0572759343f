use Rattle.world_views.specs.WorldOf.{whole_of}
use Rattle.life_trials.proofs.Worlds.{asked_ok}
use Rattle.life_trials.proofs.traces.checks.lives.begin.Goals as goal

pub returns : goal.returns
returns c =
    asked_ok c.ask.result c.args.request (whole_of c.args.world.now) (whole_of c.ask.new.self) c.requires
    c.ask.ensures.ok
