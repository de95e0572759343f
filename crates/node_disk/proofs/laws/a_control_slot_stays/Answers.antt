use Rattle.node_disk.proofs.ControlLaw.{control_stays}
use Rattle.node_disk.proofs.laws.a_control_slot_stays.Goals as goal

pub returns : goal.returns
returns c = control_stays
