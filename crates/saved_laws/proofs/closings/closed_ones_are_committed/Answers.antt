use Rattle.saved_laws.proofs.settled.ClosedOnes.{closed_ones_are_committed}
use Rattle.saved_laws.proofs.closings.closed_ones_are_committed.Goals as goal

pub returns : goal.returns
returns c = closed_ones_are_committed
