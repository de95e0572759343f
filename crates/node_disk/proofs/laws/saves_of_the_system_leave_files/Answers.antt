use Rattle.node_disk.proofs.LawLemmas.{system_leaves}
use Rattle.node_disk.proofs.laws.saves_of_the_system_leave_files.Goals as goal

pub returns : goal.returns
returns c = system_leaves
