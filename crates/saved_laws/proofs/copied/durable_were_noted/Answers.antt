use Rattle.saved_laws.proofs.copied.durable_were_noted.Goals as goal
use Rattle.saved_laws.proofs.masters.All.{durable_were_noted}

pub returns : goal.returns
returns c = durable_were_noted
