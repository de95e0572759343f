use Rattle.order_laws.proofs.Carried.{carried_out_stay_out}
use Rattle.order_laws.proofs.laws.carried_out_stay_out.Goals as goal

pub returns : goal.returns
returns c = carried_out_stay_out
