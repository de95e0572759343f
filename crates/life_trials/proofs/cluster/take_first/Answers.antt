use Rattle.world_views.specs.WorldOf.{whole_of}
use Rattle.life_trials.proofs.Stays.{step_stays}
use Rattle.life_trials.proofs.cluster.take_first.Goals as goal

pub returns : goal.returns
returns c =
    step_stays c.step.result (whole_of c.args.cluster.now.world) (whole_of c.step.new.self.world) c.requires
    c.step.ensures.ok
