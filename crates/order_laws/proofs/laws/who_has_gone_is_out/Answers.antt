use Rattle.order_laws.proofs.Gone.{who_has_gone_is_out}
use Rattle.order_laws.proofs.laws.who_has_gone_is_out.Goals as goal

pub returns : goal.returns
returns c = who_has_gone_is_out
