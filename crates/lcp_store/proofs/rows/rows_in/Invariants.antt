use Rattle.std.proofs.Common.{◌≤◌, length}
use Rattle.lcp_store.proofs.RowsLemmas.{IsOnTheWay}
use Rattle.lcp_store.proofs.rows.rows_in.Given as goal

-- the rows that were read and the bytes that are left lead to what all the bytes are
abbrev pub invariant-rows : goal.invariant-rows
invariant-rows l = (length l.rest ≤ length l.bytes) × (IsOnTheWay l.file l.latest l.bytes l.version l.rows l.rest)

abbrev pub decreases-rows : goal.decreases-rows
decreases-rows l = length l.rest
