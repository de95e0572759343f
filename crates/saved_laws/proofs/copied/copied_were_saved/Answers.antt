use Rattle.saved_laws.proofs.copied.copied_were_saved.Goals as goal
use Rattle.saved_laws.proofs.masters.All.{copied_were_saved}

pub returns : goal.returns
returns c = copied_were_saved
