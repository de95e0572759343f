use Rattle.closing_laws.proofs.settled.ClosedStayClosed.{closed_stay_closed}
use Rattle.closing_laws.proofs.closing_laws.closed_epochs_stay_closed.Goals as goal

pub returns : goal.returns
returns c = closed_stay_closed
