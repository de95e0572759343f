use Rattle.view_laws.proofs.runs.AllSound.{have_orderly}
use Rattle.view_laws.proofs.runs.ChosenViews.{one_view}
use Rattle.view_laws.proofs.run_laws.one_view_of_a_number.Goals as goal

-- src/run_laws.rt:12:1
pub returns : goal.returns
returns c = one_view have_orderly
