use Rattle.std.proofs.Common.{rules, ◌≡◌, ◌∙◌, ap, map}
use Rattle.std.specs.FinMap as map
use Rattle.std.specs.Map.Iter.{deref_pair}
use Rattle.std.proofs.lemmas.List.Sorted.{All-permutation}
use Rattle.row_map.specs.Stored.{IsValue, rows_at}
use Rattle.row_map.proofs.HashedLemmas.{in_order}
use Rattle.row_map.proofs.ListingLemmas.{in_order_kept}
use Rattle.row_map.proofs.rows.RowMap.lend_rows.Goals as goal

pub returns-clause-rows : goal.returns-clause-rows
returns-clause-rows c =
    let places = c.self.inside.places.entries in
    let lent = map deref_pair c.in_ok-rows.rows.items in
    let moved = map deref_pair c.sort.new.rows.items in
    let all : lent ≡ rows_at c.self.inside.bytes.items places =
    c.in_ok-rows.ensures.rows ∙ ap (λ bytes. rows_at bytes places) c.deref.ensures.value in
    let kept = in_order_kept lent moved c.in_ok-rows.ensures.distinct c.in_ok-sort.ensures.permutation
    c.in_ok-sort.ensures.sorted in
    let now : moved ≡ map.entries (map.from_entries {R = in_order} (rows_at c.self.inside.bytes.items places)) =
    kept ∙ ap (λ rows. map.entries (map.from_entries {R = in_order} rows)) all in
    search (now, rules)

pub returns-clause-values : goal.returns-clause-values
returns-clause-values c =
    let kept = All-permutation (λ row. IsValue row.1.now) _ c.sort.new.rows.items c.in_ok-sort.ensures.same
    c.in_ok-rows.ensures.values in
    search (kept, rules)
