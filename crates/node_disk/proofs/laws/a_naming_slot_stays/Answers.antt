use Rattle.node_disk.proofs.ControlLaw.{naming_stays}
use Rattle.node_disk.proofs.laws.a_naming_slot_stays.Goals as goal

pub returns : goal.returns
returns c = naming_stays
