use Rattle.saved_laws.proofs.settled.TakenCommits.{commits_were_decided}
use Rattle.saved_laws.proofs.closings.commits_were_decided.Goals as goal

pub returns : goal.returns
returns c = commits_were_decided
