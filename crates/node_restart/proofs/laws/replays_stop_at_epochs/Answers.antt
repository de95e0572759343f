use Rattle.node_restart.proofs.ReplayLaw.{replays_stop}
use Rattle.node_restart.proofs.laws.replays_stop_at_epochs.Goals as goal

pub returns : goal.returns
returns c = replays_stop
