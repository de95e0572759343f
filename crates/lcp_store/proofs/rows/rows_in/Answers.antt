use Rattle.std.proofs.Common.{rules, ◌≤◌, length, sym}
use Rattle.std.proofs.lemmas.List.{take_rest}
use Rattle.lcp_store.specs.Lent.{stored_of}
use Rattle.lcp_store.proofs.RowsLemmas.{begins, goes_on, stops}
use Rattle.lcp_store.proofs.rows.rows_in.Goals as goal

-- behind the head all rows are left
pub rows-init : goal.rows-init
rows-init c =
    begins c.args.file c.args.latest c.args.bytes.now c.in-Ok.found.0 c.in-Ok.found.1 _ _ (sym c.in-Ok.ensures.told)
    c.in-Ok-with_room.ensures
    (take_rest c.args.bytes.now c.in-Ok.found.1)

-- one more row is read
pub rows-preserved : goal.rows-preserved
rows-preserved c =
    let some : 1 ≤ length c.rows.rest.now = search rules in
    let one : 1 ≤ c.in-Ok-lent_row_in.taken = search rules in
    goes_on c.args.file c.args.latest c.args.bytes.now c.in-Ok.found.0 c.rows.rows c.rows.rest.now (stored_of c.in-Ok-lent_row_in.row)
    c.in-Ok-lent_row_in.taken _ _
    c.rows.invariant some one c.in-Ok-lent_row_in.ensures.told c.in-Ok-insert.ensures.ok
    (take_rest c.rows.rest.now c.in-Ok-lent_row_in.taken)

-- no row stands in front
pub returns-in-Err-lent_row_in : goal.returns-in-Err-lent_row_in
returns-in-Err-lent_row_in c =
    let some : 1 ≤ length c.rows.rest.now = search rules in
    stops c.args.file c.args.latest c.args.bytes.now c.in-Ok.found.0 c.rows.rows c.rows.rest.now c.in-Err-lent_row_in.left
    _ c.rows.invariant some c.in-Err-lent_row_in.ensures.told (search rules)
