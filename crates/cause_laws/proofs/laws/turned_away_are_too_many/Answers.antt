use Rattle.cause_laws.proofs.Causes.{away_too_many}
use Rattle.cause_laws.proofs.laws.turned_away_are_too_many.Goals as goal

pub returns : goal.returns
returns c = away_too_many
