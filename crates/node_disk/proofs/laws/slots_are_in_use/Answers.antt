use Rattle.node_disk.proofs.StartLaw.{are_in_use}
use Rattle.node_disk.proofs.laws.slots_are_in_use.Goals as goal

pub returns : goal.returns
returns c = are_in_use
