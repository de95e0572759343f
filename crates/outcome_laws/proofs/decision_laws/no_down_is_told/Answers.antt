use Rattle.outcome_laws.proofs.downfall.NobodyIsTold.{no_down_is_told}
use Rattle.outcome_laws.proofs.decision_laws.no_down_is_told.Goals as goal

pub returns : goal.returns
returns c = no_down_is_told
