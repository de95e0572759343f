use Rattle.order_laws.proofs.Written.{who_commits_has_written}
use Rattle.order_laws.proofs.laws.who_commits_has_written.Goals as goal

pub returns : goal.returns
returns c = who_commits_has_written
