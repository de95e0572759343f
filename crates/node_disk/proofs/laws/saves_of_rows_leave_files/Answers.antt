use Rattle.node_disk.proofs.LawLemmas.{rows_leave}
use Rattle.node_disk.proofs.laws.saves_of_rows_leave_files.Goals as goal

pub returns : goal.returns
returns c = rows_leave
