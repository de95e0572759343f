use Rattle.node_restart.proofs.SaveLaw.{rows_kept}
use Rattle.node_restart.proofs.laws.saves_keep_rows.Goals as goal

pub returns : goal.returns
returns c = rows_kept
