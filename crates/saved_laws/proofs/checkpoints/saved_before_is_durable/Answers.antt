use Rattle.saved_laws.proofs.behind.All.{saved_before_durable}
use Rattle.saved_laws.proofs.checkpoints.saved_before_is_durable.Goals as goal

pub returns : goal.returns
returns c = saved_before_durable
