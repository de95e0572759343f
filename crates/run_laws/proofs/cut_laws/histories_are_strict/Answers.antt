use Rattle.run_laws.proofs.history.StrictOrder.{histories_strict}
use Rattle.run_laws.proofs.cut_laws.histories_are_strict.Goals as goal

pub returns : goal.returns
returns c = histories_strict
