use Rattle.closing_laws.proofs.durable.All.{durable_were_closed}
use Rattle.closing_laws.proofs.closing_laws.durable_epochs_were_closed.Goals as goal

pub returns : goal.returns
returns c = durable_were_closed
