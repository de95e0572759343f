-- What goes through the entries of an ordered map goes through those of the finite map.
use Rattle.std.proofs.Common.{◌≡◌, ℕ, List, [], ◌∷◌, map, refl, ap, sym, ◌∙◌, subst, T, Bool, true, ◌&&◌}
use Rattle.std.specs.Prelude.{option_map}
use Rattle.std.specs.declared.cmp.Ordering.TheVariants.{Less}
use Rattle.std.specs.Ordering.{is_lt}
use Rattle.std.specs.Cmp.Lexicographic.{nat_list_cmp_total}
use Rattle.std.specs.List.{AllByRecursion}
use Rattle.std.specs.List.Sorted.{IsStrictlySortedBy}
use Rattle.std.specs.Map.{keys_of}
use Rattle.std.specs.BTreeMap.{BTreeMap, is_at, IsOrdered}
use Rattle.std.specs.FinMap.{from_entries, from_sorted, entries, is_sorted, same_map, get-entries, get-from_sorted}
use Rattle.std.specs.FinMap.{get-from_entries, entries-from_sorted, slice_cmp-IsAntisymmetric, nat_cmp-IsAntisymmetric}
use Rattle.std.specs.FinMap.Entries.{below_all}
use Rattle.std.proofs.lemmas.Map.Made.{lookup-map_values}
use Rattle.sig_core.proofs.TableLemmas.{find-lookup}
use Rattle.row_locks.specs.Rows.{RowLock}
use Rattle.row_locks.specs.Rounds.{map_locks, expired, expired_in}
use Rattle.row_locks.proofs.LocksLemmas.{key_cmp, get-locks}

-- each lock changed in the entries is each lock changed
pub mapped-locks : (g : RowLock → RowLock) (es : List (List ℕ × RowLock))
    → from_entries {R = key_cmp} (map (λ e. (e.0, g e.1)) es) ≡ map_locks g (from_entries es)
mapped-locks g es =
    same_map nat_list_cmp_total (slice_cmp-IsAntisymmetric nat_cmp-IsAntisymmetric) _ _
    (λ q. get-locks (map (λ e. (e.0, g e.1)) es) q ∙ lookup-map_values g (is_at (key_cmp q)) es
    ∙ ap (option_map g) (sym (get-locks es q) ∙ get-entries (from_entries es) q ∙ find-lookup key_cmp q
    (entries (from_entries {R = key_cmp} es)))
    ∙ sym (lookup-map_values g (is_at (key_cmp q)) (entries (from_entries {R = key_cmp} es)))
    ∙ sym (get-locks (map (λ e. (e.0, g e.1)) (entries (from_entries {R = key_cmp} es))) q))

both_true : (a b : Bool) → a ≡ true → b ≡ true → (a && b) ≡ true
both_true a b p q = ap (λ x. x && b) p ∙ q

below_from : (k : List ℕ) (es : List (List ℕ × RowLock)) → AllByRecursion (λ y. key_cmp k y ≡ Less) (keys_of es)
    → below_all key_cmp k es ≡ true
below_from k [] h = refl
below_from k (e ∷ es) h =
    both_true (is_lt (key_cmp k e.0)) (below_all key_cmp k es) (ap is_lt h.0) (below_from k es h.1)

sorted_from : (es : List (List ℕ × RowLock)) → IsStrictlySortedBy key_cmp (keys_of es) → is_sorted key_cmp es ≡ true
unfolding IsStrictlySortedBy
sorted_from [] h = refl
sorted_from (e ∷ es) h =
    both_true (below_all key_cmp e.0 es) (is_sorted key_cmp es) (below_from e.0 es h.0) (sorted_from es h.1)

-- the entries of an ordered map are those of the finite map, in the same order
pub entries-locks : (m : BTreeMap (List ℕ) RowLock) → IsOrdered key_cmp m
    → entries (from_entries {R = key_cmp} m.entries) ≡ m.entries
entries-locks m ordered =
    let sorted = subst T (sym (sorted_from m.entries ordered)) tt in
    ap entries (same_map nat_list_cmp_total (slice_cmp-IsAntisymmetric nat_cmp-IsAntisymmetric) (from_entries m.entries)
    (from_sorted m.entries)
    (λ q. get-from_entries nat_list_cmp_total m.entries q ∙ sym (get-from_sorted key_cmp m.entries q sorted)))
    ∙ entries-from_sorted key_cmp m.entries sorted

-- so the first wait that has expired is the same
pub expired-locks : (m : BTreeMap (List ℕ) RowLock) → IsOrdered key_cmp m
    → expired_in m.entries ≡ expired (from_entries m.entries)
expired-locks m ordered = ap expired_in (sym (entries-locks m ordered))

pub ruleset rounds = (mapped-locks, expired-locks)
