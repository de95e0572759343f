use Rattle.restart_laws.proofs.groups.Whole.{restarts_as_history}
use Rattle.restart_laws.proofs.restart.restarts_are_history.Goals as goal

pub returns : goal.returns
returns c = restarts_as_history
