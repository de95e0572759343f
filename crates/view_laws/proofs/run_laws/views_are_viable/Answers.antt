use Rattle.view_laws.proofs.runs.AllSound.{have_orderly}
use Rattle.view_laws.proofs.runs.ChosenViews.{viable}
use Rattle.view_laws.proofs.run_laws.views_are_viable.Goals as goal

-- src/run_laws.rt:17:1
pub returns : goal.returns
returns c = viable have_orderly
