use Rattle.lcp_store.proofs.ReadingLaws.{none_begins}
use Rattle.lcp_store.proofs.laws.no_row_begins_another.Goals as goal

pub returns : goal.returns
returns c = none_begins
