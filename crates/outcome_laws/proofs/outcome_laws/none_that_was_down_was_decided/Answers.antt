use Rattle.outcome_laws.proofs.downfall.NeverDecided.{none_down_decided}
use Rattle.outcome_laws.proofs.outcome_laws.none_that_was_down_was_decided.Goals as goal

pub returns : goal.returns
returns c = none_down_decided
