use Rattle.saved_laws.proofs.rows.Whole.{saved_rows_are_history}
use Rattle.saved_laws.proofs.history.saved_rows_are_history.Goals as goal

pub returns : goal.returns
returns c = saved_rows_are_history
