-- Where nobody waits any more, only those keys are left that somebody holds.
use Rattle.std.proofs.Common.{◌≡◌, ℕ, Bool, true, false, not, cond, List, [], ◌∷◌, map, refl, ap, sym, ◌∙◌, subst, T}
use Rattle.std.proofs.Common.{Ordering}
use Rattle.std.proofs.lemmas.Bool.{true≢false, and_parts, not-true}
use Rattle.std.proofs.lemmas.Map.Entries.{option_filter, lookup-filter-values}
use Rattle.std.proofs.lemmas.Map.Keys.{IsDistinct-from_sorted}
use Rattle.std.proofs.lemmas.Map.Made.{keys_of-map_values, lookup-map_values}
use Rattle.std.specs.Prelude.{Option, Some, None, filter, option_map}
use Rattle.std.specs.declared.cmp.Ordering.TheVariants.{Less, Equal, Greater}
use Rattle.std.specs.Ordering.{eq_by_cmp, is_lt}
use Rattle.std.specs.Cmp.{eq_by_cmp_equiv}
use Rattle.std.specs.Cmp.Lexicographic.{nat_list_cmp_total}
use Rattle.std.specs.List.{AllByRecursion, IsDistinct}
use Rattle.std.specs.List.Sorted.{IsStrictlySortedBy}
use Rattle.std.specs.Map.{keys_of}
use Rattle.std.specs.Map.Calls.{RetainsPairs}
use Rattle.std.specs.BTreeMap.{is_at}
use Rattle.std.specs.FinMap as finite
use Rattle.std.specs.FinMap.Entries.{below_all}
use Rattle.sig_core.proofs.TableLemmas.{find-lookup}
use Rattle.row_locks.specs.Rows.{RowLock, unqueued}
use Rattle.row_locks.specs.Rounds.{all_unqueued, is_used}
use Rattle.row_locks.specs.Orderly.{IsOrderly}
use Rattle.row_locks.specs.OrderlyTables.{AreOrderly}
use Rattle.row_locks.specs.Tables.{Locks, is_idle, or_unlocked}
use Rattle.row_locks.proofs.LocksLemmas.{key_cmp, get-locks}
use Rattle.row_locks.proofs.OrderlyLemmas.{unqueued_orderly}
use Rattle.row_locks.proofs.TableLawLemmas.{some_none, unlocked_orderly}

module _ {F : Type 0} (T : F → List ℕ → RowLock → Bool → RowLock → F → Type 0) where
  -- the entries that are left, each without its queue
  pub retained : (f : F)
      → ((k : List ℕ) (v : RowLock) (b : Bool) (w : RowLock) (g : F) → T f k v b w g → (b ≡ is_used (k, unqueued v)) ×
      (w ≡ unqueued v) × (g ≡ f))
      → (es kept : List (List ℕ × RowLock)) → RetainsPairs T f es kept
      → kept ≡ filter is_used (map (λ e. (e.0, unqueued e.1)) es)
  retained f told [] kept r = r
  retained f told (e ∷ es) kept r =
      let a = told e.0 e.1 r.0 r.1 r.2 r.4 in
      let rest = retained f told es r.3 (subst (λ u. RetainsPairs T u es r.3) a.2 r.5) in
      r.6 ∙ (λ i. cond (a.0 i) ((e.0, a.1 i) ∷ rest i) (rest i))

-- the keys of a finite map differ

less_is : (o : Ordering) → is_lt o ≡ true → o ≡ Less
less_is Less e = refl
less_is Equal e = absurd (true≢false (sym e))
less_is Greater e = absurd (true≢false (sym e))

above_all : (k : List ℕ) (es : List (List ℕ × RowLock)) → below_all key_cmp k es ≡ true
    → AllByRecursion (λ y. key_cmp k y ≡ Less) (keys_of es)
above_all k [] h = tt
above_all k (e ∷ es) h =
    let parts = and_parts (is_lt (key_cmp k e.0)) (below_all key_cmp k es) h in
    (less_is (key_cmp k e.0) parts.0, above_all k es parts.1)

pub rising : (es : List (List ℕ × RowLock)) → finite.is_sorted key_cmp es ≡ true
    → IsStrictlySortedBy key_cmp (keys_of es)
unfolding IsStrictlySortedBy
rising [] h = tt
rising (e ∷ es) h =
    let parts = and_parts (below_all key_cmp e.0 es) (finite.is_sorted key_cmp es) h in
    (above_all e.0 es parts.0, rising es parts.1)

pub holds_true : (b : Bool) → T b → b ≡ true
holds_true true t = refl
holds_true false t = absurd t

distinct : (m : Locks) → IsDistinct (eq_by_cmp key_cmp) (keys_of (map (λ e. (e.0, unqueued e.1)) (finite.entries m)))
distinct m =
    subst (λ ks. IsDistinct (eq_by_cmp key_cmp) ks) (sym (keys_of-map_values unqueued (finite.entries m)))
    (IsDistinct-from_sorted key_cmp (keys_of (finite.entries m))
    (rising (finite.entries m) (holds_true _ (finite.entries_sorted m))))

-- the lock is used
abbrev used : RowLock → Bool
used l = not (is_idle l)

get-unqueued : (m : Locks) (q : List ℕ)
    → finite.get (all_unqueued m) q ≡ option_filter used (option_map unqueued (finite.get m q))
get-unqueued m q =
    get-locks (filter is_used (map (λ e. (e.0, unqueued e.1)) (finite.entries m))) q
    ∙ lookup-filter-values (eq_by_cmp_equiv nat_list_cmp_total) used q
    (map (λ e. (e.0, unqueued e.1)) (finite.entries m)) (distinct m)
    ∙ ap (option_filter used) (lookup-map_values unqueued (is_at (key_cmp q)) (finite.entries m)
    ∙ ap (option_map unqueued) (sym (finite.get-entries m q ∙ find-lookup key_cmp q (finite.entries m))))

left_orderly : (o : Option RowLock) → IsOrderly (or_unlocked o)
    → IsOrderly (or_unlocked (option_filter used (option_map unqueued o)))
left_orderly None is = unlocked_orderly
left_orderly (Some l) is = by (used (unqueued l))
  where
    by : (b : Bool) → IsOrderly (or_unlocked (cond b (Some (unqueued l)) None))
    by true = unqueued_orderly l is
    by false = unlocked_orderly

left_used : (o : Option RowLock) (l : RowLock) → option_filter used (option_map unqueued o) ≡ Some l → is_idle l ≡ false
left_used None l e = some_none l e
left_used (Some x) l e = by (used (unqueued x)) refl e
  where
    by : (b : Bool) → used (unqueued x) ≡ b → cond b (Some (unqueued x)) None ≡ Some l → is_idle l ≡ false
    by true is e = ap (λ o. is_idle (or_unlocked o)) (sym e) ∙ not-true _ is
    by false is e = some_none l e

pub unwait_all_orderly : (m : Locks) → AreOrderly m → AreOrderly (all_unqueued m)
unwait_all_orderly m are =
    record {
      each = λ q. subst (λ o. IsOrderly (or_unlocked o)) (sym (get-unqueued m q))
          (left_orderly (finite.get m q) (are.each q));
      used = λ q l e. left_used (finite.get m q) l (sym (get-unqueued m q) ∙ e);
    }
