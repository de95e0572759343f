use Rattle.restart_laws.proofs.begun.History.{lives_go_on_from_history}
use Rattle.restart_laws.proofs.handed_on.lives_go_on_from_history.Goals as goal

pub returns : goal.returns
returns c = lives_go_on_from_history
