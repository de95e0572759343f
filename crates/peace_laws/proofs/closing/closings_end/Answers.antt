use Rattle.peace_laws.proofs.closings.Ends.{closings_end}
use Rattle.peace_laws.proofs.closing.closings_end.Goals as goal

pub returns : goal.returns
returns c = closings_end
