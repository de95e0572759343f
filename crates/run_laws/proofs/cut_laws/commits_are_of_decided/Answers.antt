use Rattle.run_laws.proofs.history.StrictOrder.{commits_decided}
use Rattle.run_laws.proofs.cut_laws.commits_are_of_decided.Goals as goal

pub returns : goal.returns
returns c = commits_decided
