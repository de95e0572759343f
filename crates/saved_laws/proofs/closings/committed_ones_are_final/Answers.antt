use Rattle.saved_laws.proofs.settled.CommittedOnes.{committed_ones_are_final}
use Rattle.saved_laws.proofs.closings.committed_ones_are_final.Goals as goal

pub returns : goal.returns
returns c = committed_ones_are_final
