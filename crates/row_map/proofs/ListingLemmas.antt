-- The entries of a hashed map, put in the order of their keys, are those of its finite map.
use Rattle.std.proofs.Common.{◌≡◌, ◌∙◌, ℕ, suc, ◌+◌, ◌<◌, Bool, true, false, true≢false, ◌&&◌, T, List, [], ◌∷◌}
use Rattle.std.proofs.Common.{refl, ap, sym, subst}
use Rattle.std.proofs.Common.{Ordering, Less, Equal, Greater, length, arith, IsPermutation}
use Rattle.std.proofs.lemmas.List.Sorted.{IsPermutation-map, ranks_by, sorted_far}
use Rattle.std.specs.Cmp.Lexicographic.{nat_list_cmp_total, nat_list_eq_equiv, texts_ties}
use Rattle.std.specs.FinMap as map
use Rattle.std.specs.FinMap.Entries.{below_all, is_sorted}
use Rattle.std.specs.List.{AllByRecursion, IsDistinct, slice_index_or}
use Rattle.std.specs.List.Sorted.{IsSortedBy, IsStrictlySortedBy}
use Rattle.std.specs.Map.{keys_of}
use Rattle.std.specs.Ordering.{is_eq, is_lt, ordering_reverse}
use Rattle.indexmap.proofs.MapLemmas.{distinct_permutation, lookup_permutation, sorted_keys}
use Rattle.row_map.specs.Stored.{same}
use Rattle.row_map.proofs.HashedLemmas.{get_hashed, in_order, is_before}

both : (a b : Bool) → T a → T b → T (a && b)
both true b p q = q
both false b p q = p

below : (key : List ℕ) (es : List (List ℕ × List ℕ)) → AllByRecursion (λ k. in_order key k ≡ Less) (keys_of es)
    → T (below_all in_order key es)
below key [] all = tt
below key (e ∷ es) all =
    both (is_lt (in_order key e.0)) (below_all in_order key es) (subst (λ o. T (is_lt o)) (sym all.0) tt)
    (below key es all.1)

sorted : (es : List (List ℕ × List ℕ)) → IsStrictlySortedBy in_order (keys_of es) → T (is_sorted in_order es)
unfolding IsStrictlySortedBy
sorted [] is = tt
sorted (e ∷ es) is = both (below_all in_order e.0 es) (is_sorted in_order es) (below e.0 es is.0) (sorted es is.1)

-- a map of entries in the order of their keys has these entries
entries_kept : (es : List (List ℕ × List ℕ)) → IsStrictlySortedBy in_order (keys_of es)
    → map.entries (map.from_entries {R = in_order} es) ≡ es
entries_kept es is =
    let kept = sorted es is in
    let one : map.from_entries {R = in_order} es ≡ map.from_sorted es =
    map.same_map nat_list_cmp_total (map.slice_cmp-IsAntisymmetric map.nat_cmp-IsAntisymmetric) _ _
    (λ q. map.get-from_entries nat_list_cmp_total es q ∙ sym (map.get-from_sorted in_order es q kept)) in
    ap map.entries one ∙ map.entries-from_sorted in_order es kept

-- of two keys that differ, the one that isn't behind the other stands before it
before : (k x : List ℕ) → is_before x k ≡ false → same k x ≡ false → in_order k x ≡ Less
before k x up apart = by (in_order k x) refl
  where
    by : (o : Ordering) → in_order k x ≡ o → in_order k x ≡ Less
    by Less is = is
    by Equal is = absurd (true≢false (sym (texts_ties k x ∙ ap is_eq is) ∙ apart))
    by Greater is = absurd (true≢false (sym (ap is_lt (nat_list_cmp_total.antisymm x k ∙ ap ordering_reverse is)) ∙ up))

all_behind : (k : List ℕ) (ks : List (List ℕ))
    → ((i : ℕ) (d : List ℕ) → i < length ks → is_before (slice_index_or ks i d) k ≡ false)
    → AllByRecursion (λ y. same k y ≡ false) ks → AllByRecursion (λ y. in_order k y ≡ Less) ks
all_behind k [] up apart = tt
all_behind k (x ∷ xs) up apart =
    (before k x (up 0 x (omega arith)) apart.0, all_behind k xs (λ i d a. up (suc i) d (omega arith)) apart.1)

-- keys that differ and don't fall rise
strictly : (ks : List (List ℕ)) → IsSortedBy is_before ks → IsDistinct same ks → IsStrictlySortedBy in_order ks
unfolding IsStrictlySortedBy IsDistinct
strictly [] up apart = tt
strictly (k ∷ ks) up apart = (
  all_behind k ks
      (λ i d a. sorted_far is_before (ranks_by nat_list_cmp_total (λ x. x)) (k ∷ ks) up 0 (suc i) d (omega arith)
      (omega arith))
      apart.0,
  strictly ks
      (λ i d a b. subst (λ (n : ℕ). is_before (slice_index_or (k ∷ ks) n d) (slice_index_or ks i d) ≡ false)
      {x = suc i + 1} {y = suc (i + 1)} (omega arith) (up (suc i) d (omega arith) (omega arith)))
      apart.1,
)

-- entries whose keys differ, and the same in the order of their keys
pub in_order_kept : (es ls : List (List ℕ × List ℕ)) → IsDistinct same (keys_of es) → IsPermutation es ls
    → IsSortedBy (λ a b. is_before a.0 b.0) ls → ls ≡ map.entries (map.from_entries {R = in_order} es)
in_order_kept es ls distinct moves up =
    let apart = distinct_permutation nat_list_eq_equiv (keys_of es) (keys_of ls)
    (IsPermutation-map (λ e. e.0) es ls moves) distinct in
    let strict = strictly (keys_of ls) (sorted_keys is_before ls up) apart in
    let one : map.from_entries {R = in_order} es ≡ map.from_entries ls =
    map.same_map nat_list_cmp_total (map.slice_cmp-IsAntisymmetric map.nat_cmp-IsAntisymmetric) _ _
    (λ q. get_hashed es q
    ∙ sym (lookup_permutation nat_list_eq_equiv es ls moves apart (same q) (nat_list_eq_equiv.congr q))
    ∙ sym (get_hashed ls q)) in
    sym (ap map.entries one ∙ entries_kept ls strict)
