use Rattle.calm_laws.proofs.known.Transactions.{coming_known}
use Rattle.calm_laws.proofs.lives.WellFormed.{coming_well_formed}
use Rattle.calm_laws.proofs.steps.coming_signals_are_known.Goals as goal

pub returns : goal.returns
returns c = record { known = coming_known; fine = coming_well_formed }
