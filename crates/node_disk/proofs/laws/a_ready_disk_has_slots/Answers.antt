use Rattle.node_disk.proofs.StartLaw.{ready_has}
use Rattle.node_disk.proofs.laws.a_ready_disk_has_slots.Goals as goal

pub returns : goal.returns
returns c = ready_has
