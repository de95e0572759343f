use Rattle.node_restart.proofs.RestoredLaw.{restored}
use Rattle.node_restart.proofs.laws.rows_are_restored.Goals as goal

pub returns : goal.returns
returns c = restored
