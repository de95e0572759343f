use Rattle.saved_laws.proofs.copied.done_were_marked.Goals as goal
use Rattle.saved_laws.proofs.masters.Done.{done_were_marked}

pub returns : goal.returns
returns c = done_were_marked
