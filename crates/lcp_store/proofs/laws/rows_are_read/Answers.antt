use Rattle.lcp_store.proofs.ReadingLaws.{rows_are_read}
use Rattle.lcp_store.proofs.laws.rows_are_read.Goals as goal

pub returns : goal.returns
returns c = rows_are_read
