use Rattle.std.proofs.Common.{rules, ◌≡◌, ◌∙◌, ap, subst, sym}
use Rattle.std.specs.FinMap as map
use Rattle.row_map.specs.Stored.{AreStored, IsValue, rows_at}
use Rattle.row_map.proofs.HashedLemmas.{in_order}
use Rattle.row_map.proofs.StoredLemmas.{insert_rows, insert_stored, more_rows, more_stored}
use Rattle.row_map.proofs.rows.RowMap.insert.Goals as goal

pub invariant_of-self-in_err-insert : goal.invariant_of-self-in_err-insert
invariant_of-self-in_err-insert c =
    let bytes = c.self.inside.bytes.items in
    let es = c.self.inside.places.entries in
    subst (λ es. AreStored c.extend_from_slice.new.self.items es) (sym c.in_err-insert.ensures.err)
    (subst (λ now. AreStored now es) (sym c.in_ok-extend_from_slice.ensures.items)
    (more_stored bytes c.args.value.now es c.self.invariant))

pub returns-in_err-insert-clause-err : goal.returns-in_err-insert-clause-err
returns-in_err-insert-clause-err c =
    let bytes = c.self.inside.bytes.items in
    let es = c.self.inside.places.entries in
    let now : map.from_entries {R = in_order} (rows_at c.extend_from_slice.new.self.items c.insert.new.self.entries)
    ≡ map.from_entries (rows_at bytes es) =
    ap (λ es. map.from_entries {R = in_order} (rows_at c.extend_from_slice.new.self.items es)) c.in_err-insert.ensures.err
    ∙ ap (λ now. map.from_entries {R = in_order} (rows_at now es)) c.in_ok-extend_from_slice.ensures.items
    ∙ more_rows bytes c.args.value.now es c.self.invariant in
    search (now, rules)

pub invariant_of-self-2 : goal.invariant_of-self-2
invariant_of-self-2 c =
    let bytes = c.self.inside.bytes.items in
    let value = c.args.value.now in
    let is : IsValue value = record { most = c.requires.most; printable = c.requires.printable } in
    subst (λ now. AreStored now c.insert.new.self.entries) (sym c.in_ok-extend_from_slice.ensures.items)
    (insert_stored bytes value c.self.inside.places c.insert.new.self c.args.key _ c.self.invariant is (search rules)
    (search rules) c.in_ok-insert.ensures.updates)

pub returns-clause-ok : goal.returns-clause-ok
returns-clause-ok c =
    let bytes = c.self.inside.bytes.items in
    let value = c.args.value.now in
    let is : IsValue value = record { most = c.requires.most; printable = c.requires.printable } in
    let now : map.from_entries {R = in_order} (rows_at c.extend_from_slice.new.self.items c.insert.new.self.entries)
    ≡ map.insert (map.from_entries (rows_at bytes c.self.inside.places.entries)) c.args.key value =
    ap (λ now. map.from_entries {R = in_order} (rows_at now c.insert.new.self.entries)) c.in_ok-extend_from_slice.ensures.items
    ∙ insert_rows bytes value c.self.inside.places c.insert.new.self c.args.key _ c.self.invariant is (search rules)
    (search rules) c.in_ok-insert.ensures.updates in
    search (now, rules)
