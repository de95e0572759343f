use Rattle.run_laws.proofs.history.Epochs.{view_first, view_viable}
use Rattle.run_laws.proofs.cut_laws.greatest_view_is_viable.Goals as goal

pub returns-clause-first : goal.returns-clause-first
returns-clause-first c = view_first

pub returns-clause-viable : goal.returns-clause-viable
returns-clause-viable c = view_viable
