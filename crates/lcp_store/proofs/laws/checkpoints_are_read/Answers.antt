use Rattle.lcp_store.proofs.ReadingLaws.{checkpoints_read}
use Rattle.lcp_store.proofs.laws.checkpoints_are_read.Goals as goal

pub returns : goal.returns
returns c = checkpoints_read
