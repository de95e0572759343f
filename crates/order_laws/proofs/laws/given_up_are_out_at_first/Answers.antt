use Rattle.order_laws.proofs.First.{given_up_are_out_at_first}
use Rattle.order_laws.proofs.laws.given_up_are_out_at_first.Goals as goal

pub returns : goal.returns
returns c = given_up_are_out_at_first
