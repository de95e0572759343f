use Rattle.order_laws.proofs.Standing.{who_is_away_is_out}
use Rattle.order_laws.proofs.laws.who_is_away_is_out.Goals as goal

pub returns : goal.returns
returns c = who_is_away_is_out
