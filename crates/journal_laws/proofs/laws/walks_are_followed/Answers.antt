use Rattle.journal_laws.proofs.follow.Follow.{walks_followed}
use Rattle.journal_laws.proofs.laws.walks_are_followed.Goals as goal

pub returns : goal.returns
returns c = walks_followed
