use Rattle.saved_laws.proofs.others.Below.{saved_below}
use Rattle.saved_laws.proofs.keys.saved_are_below_the_last.Goals as goal

pub returns : goal.returns
returns c = saved_below
