use Rattle.restart_laws.proofs.handed.Cut.{lives_are_handed_on}
use Rattle.restart_laws.proofs.handed_on.lives_are_handed_on.Goals as goal

pub returns : goal.returns
returns c = lives_are_handed_on
