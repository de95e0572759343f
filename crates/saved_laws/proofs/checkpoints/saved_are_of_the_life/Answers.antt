use Rattle.saved_laws.proofs.checkpoints.saved_are_of_the_life.Goals as goal
use Rattle.saved_laws.proofs.others.OfLife.{saved_of_life}

pub returns : goal.returns
returns c = saved_of_life
