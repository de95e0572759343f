use Rattle.node_disk.proofs.SystemLaw.{system_stays}
use Rattle.node_disk.proofs.laws.a_system_slot_stays.Goals as goal

pub returns : goal.returns
returns c = system_stays
