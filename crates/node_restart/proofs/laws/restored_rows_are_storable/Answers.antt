use Rattle.node_restart.proofs.StorableLaw.{restored_storable}
use Rattle.node_restart.proofs.laws.restored_rows_are_storable.Goals as goal

pub returns : goal.returns
returns c = restored_storable
