use Rattle.std.proofs.Common.{length}
use Rattle.lcp_store.proofs.rows.count_rows.Given as goal

abbrev pub decreases-rows : goal.decreases-rows
decreases-rows l = length l.rest
