use Rattle.saved_laws.proofs.closings.saved_were_closed.Goals as goal
use Rattle.saved_laws.proofs.masters.Closed.{saved_were_closed}

pub returns : goal.returns
returns c = saved_were_closed
