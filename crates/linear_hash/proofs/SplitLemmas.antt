-- What a call on one bucket does to the places of all.
use Rattle.std.proofs.Common.{◌≡◌, ◌≢◌, ◌≤◌, ◌<◌, ◌⊎◌, inl, inr, ℕ, ◌+◌, ◌-◌, Bool, true, false, cond, List, [], ◌∷◌}
use Rattle.std.proofs.Common.{◌++◌, length, get_or, set, refl, ap, sym, ◌∙◌, arith, length-append}
use Rattle.std.specs.Prelude.{Option, Some, None, is_some}
use Rattle.std.specs.Ordering.{eq_by_cmp}
use Rattle.std.specs.Cmp.Lexicographic.{nat_list_cmp_total}
use Rattle.std.specs.FinMap as map
use Rattle.std.proofs.lemmas.Bool.{cases_eq, true≢false}
use Rattle.std.proofs.lemmas.List.{get_or-set_same, get_or-set_other, get_or_append_left, get_or_push, length-set}
use Rattle.std.proofs.lemmas.List.{set-append_left}
use Rattle.sig_core.specs.Same.{same_key}
use Rattle.linear_hash.specs.declared.entry.Entry.{Entry}
use Rattle.linear_hash.specs.declared.growth.Growth.{Growth}
use Rattle.sig_core.specs.Digest.{hash_of}
use Rattle.linear_hash.specs.Growth.{IsGrowth, first_growth, grown, home}
use Rattle.linear_hash.specs.Entries.{part_of, place_in, without}
use Rattle.linear_hash.specs.Places.{PlaceMap, Places, buckets_for, inserted, is_crowded, no_places, places_of, removed}
use Rattle.linear_hash.proofs.FoundLemmas.{key_cmp, place-added, place-part, place-without, same_key-is, tie-same}
use Rattle.linear_hash.proofs.HomeLemmas.{Comes, comes, home-below}
use Rattle.linear_hash.proofs.HomeLemmas.Comes.{Elsewhere, Stays, Moves}
use Rattle.linear_hash.proofs.PlaceLemmas.{get-places}

-- two maps that answer alike are one
one_map : (m n : PlaceMap) → ((q : List ℕ) → map.get m q ≡ map.get n q) → m ≡ n
one_map m n alike =
    map.same_map nat_list_cmp_total (map.slice_cmp-IsAntisymmetric map.nat_cmp-IsAntisymmetric) m n alike

-- a key of another bucket is another key
other_key : (growth : Growth) (k q : List ℕ) → home growth q ≢ home growth k → (b : Bool) → same_key k q ≡ b → b ≡ false
other_key growth k q away true same = absurd (away (ap (home growth) (sym (same_key-is k q same))))
other_key growth k q away false same = refl

-- an entry is put into the bucket of its key
pub added-places : (growth : Growth) (buckets : List (List Entry)) (entry : Entry) (bucket : ℕ)
    → bucket ≡ home growth entry.key → bucket < length buckets
    → map.get (places_of growth buckets) entry.key ≡ None
    → places_of growth (set buckets bucket (get_or buckets bucket [] ++ entry ∷ [])) ≡ map.insert
    (places_of growth buckets) entry.key entry.at
added-places growth buckets entry bucket at inside none = one_map _ _ (λ q. here q (cases_eq (home growth q) bucket))
  where
    absent : place_in entry.key (get_or buckets bucket []) ≡ None
    absent = ap (λ b. place_in entry.key (get_or buckets b [])) at ∙ sym (get-places growth buckets entry.key) ∙ none

    ends : (q : List ℕ)
        → cond (same_key entry.key q) (Some entry.at) (map.get (places_of growth buckets) q) ≡ map.get
        (map.insert (places_of growth buckets) entry.key entry.at) q
    ends q =
        ap (λ b. cond b (Some entry.at) (map.get (places_of growth buckets) q)) (sym (tie-same q entry.key))
        ∙ sym (map.get-insert nat_list_cmp_total (places_of growth buckets) entry.key entry.at q)

    here : (q : List ℕ) → (home growth q ≡ bucket) ⊎ (home growth q ≢ bucket)
        → map.get (places_of growth (set buckets bucket (get_or buckets bucket [] ++ entry ∷ []))) q ≡ map.get
        (map.insert (places_of growth buckets) entry.key entry.at) q
    here q (inl is) =
        get-places growth _ q
        ∙ ap (λ b. place_in q (get_or (set buckets bucket (get_or buckets bucket [] ++ entry ∷ [])) b [])) is
        ∙ ap (place_in q) (get_or-set_same buckets bucket _ [] inside)
        ∙ place-added (get_or buckets bucket []) entry q absent
        ∙ ap (cond (same_key entry.key q) (Some entry.at))
        (ap (λ b. place_in q (get_or buckets b [])) (sym is) ∙ sym (get-places growth buckets q))
        ∙ ends q
    here q (inr away) =
        get-places growth _ q
        ∙ ap (place_in q) (get_or-set_other buckets bucket (home growth q) _ [] away)
        ∙ sym (get-places growth buckets q)
        ∙ ap (λ b. cond b (Some entry.at) (map.get (places_of growth buckets) q))
        (sym (other_key growth entry.key q (λ e. away (e ∙ sym at)) _ refl))
        ∙ ends q

-- a key is taken out of its bucket
pub left-places : (growth : Growth) (buckets : List (List Entry)) (k : List ℕ) (bucket : ℕ) → bucket ≡ home growth k
    → bucket < length buckets
    → places_of growth (set buckets bucket (without k (get_or buckets bucket []))) ≡ map.remove
    (places_of growth buckets) k
left-places growth buckets k bucket at inside = one_map _ _ (λ q. here q (cases_eq (home growth q) bucket))
  where
    ends : (q : List ℕ)
        → cond (same_key k q) None (map.get (places_of growth buckets) q) ≡ map.get
        (map.remove (places_of growth buckets) k) q
    ends q =
        ap (λ b. cond b None (map.get (places_of growth buckets) q)) (sym (tie-same q k))
        ∙ sym (map.get-remove nat_list_cmp_total (places_of growth buckets) k q)

    here : (q : List ℕ) → (home growth q ≡ bucket) ⊎ (home growth q ≢ bucket)
        → map.get (places_of growth (set buckets bucket (without k (get_or buckets bucket [])))) q ≡ map.get
        (map.remove (places_of growth buckets) k) q
    here q (inl is) =
        get-places growth _ q
        ∙ ap (λ b. place_in q (get_or (set buckets bucket (without k (get_or buckets bucket []))) b [])) is
        ∙ ap (place_in q) (get_or-set_same buckets bucket _ [] inside)
        ∙ place-without (get_or buckets bucket []) k q
        ∙ ap (cond (same_key k q) None)
        (ap (λ b. place_in q (get_or buckets b [])) (sym is) ∙ sym (get-places growth buckets q))
        ∙ ends q
    here q (inr away) =
        get-places growth _ q
        ∙ ap (place_in q) (get_or-set_other buckets bucket (home growth q) _ [] away)
        ∙ sym (get-places growth buckets q)
        ∙ ap (λ b. cond b None (map.get (places_of growth buckets) q))
        (sym (other_key growth k q (λ e. away (e ∙ sym at)) _ refl))
        ∙ ends q

-- a bucket after its split, and the new one
abbrev pub split_buckets : Growth → ℕ → List (List Entry) → List (List Entry)
split_buckets next bucket buckets =
    set buckets bucket (part_of next bucket (get_or buckets bucket [])) ++ part_of next (length buckets)
    (get_or buckets bucket []) ∷ []

-- each key has a bucket
pub key-below : (growth : Growth) → IsGrowth growth → (q : List ℕ) → home growth q < growth.size + growth.split
unfolding home
key-below growth is q = home-below growth is (hash_of q)

-- where a key comes at a split
key_comes : (growth : Growth) → IsGrowth growth → (q : List ℕ)
    → Comes (home growth q) (home (grown growth) q) growth.split (growth.size + growth.split)
unfolding home
key_comes growth is q = comes growth is (hash_of q)

-- after a split each key is found in its bucket as it was before
moved : (growth : Growth) → IsGrowth growth → (buckets : List (List Entry))
    → length buckets ≡ growth.size + growth.split → (q : List ℕ)
    → place_in q (get_or (split_buckets (grown growth) growth.split buckets) (home (grown growth) q) []) ≡ place_in q
    (get_or buckets (home growth q) [])
moved growth is buckets all q = by (key_comes growth is q)
  where
    by : Comes (home growth q) (home (grown growth) q) growth.split (growth.size + growth.split)
        → place_in q (get_or (split_buckets (grown growth) growth.split buckets) (home (grown growth) q) [])
        ≡ place_in q (get_or buckets (home growth q) [])
    by (Elsewhere same other) =
        ap (λ b. place_in q (get_or (split_buckets (grown growth) growth.split buckets) b [])) same
        ∙ ap (place_in q)
        (get_or_append_left _ _ [] (home growth q) (rw length-set (omega (arith, all, key-below growth is q))))
        ∙ ap (place_in q) (get_or-set_other buckets growth.split (home growth q) _ [] other)
    by (Stays before after) =
        ap (λ b. place_in q (get_or (split_buckets (grown growth) growth.split buckets) b [])) after
        ∙ ap (place_in q) (get_or_append_left _ _ [] growth.split (rw length-set (omega (arith, all, is.some))))
        ∙ ap (place_in q) (get_or-set_same buckets growth.split _ [] (omega (arith, all, is.some)))
        ∙ place-part (grown growth) growth.split (get_or buckets growth.split []) q after
        ∙ ap (λ b. place_in q (get_or buckets b [])) (sym before)
    by (Moves before after) =
        ap (λ b. place_in q (get_or (split_buckets (grown growth) growth.split buckets) b [])) (after ∙ sym all)
        ∙ ap (place_in q) (get_or_push _ _ [] (length buckets) (rw length-set refl))
        ∙ place-part (grown growth) (length buckets) (get_or buckets growth.split []) q (after ∙ sym all)
        ∙ ap (λ b. place_in q (get_or buckets b [])) (sym before)

-- to add the new bucket and then to write the split one is the same
pub split-written : (old now : List (List Entry)) (bucket : ℕ) (stays moves : List Entry) (next : Growth)
    → bucket < length old → now ≡ old ++ moves ∷ []
    → stays ≡ part_of next bucket (get_or old bucket []) → moves ≡ part_of next (length old) (get_or old bucket [])
    → set now bucket stays ≡ split_buckets next bucket old
split-written old now bucket stays moves next inside is stays_is moves_is =
    ap (λ bs. set bs bucket stays) is
    ∙ set-append_left old (moves ∷ []) bucket stays inside
    ∙ ap (λ b. set old bucket b ++ moves ∷ []) stays_is
    ∙ ap (λ b. set old bucket (part_of next bucket (get_or old bucket [])) ++ b ∷ []) moves_is

-- a split leaves the places as they are
pub split-places : (growth : Growth) → IsGrowth growth → (buckets : List (List Entry))
    → length buckets ≡ growth.size + growth.split
    → places_of (grown growth) (split_buckets (grown growth) growth.split buckets) ≡ places_of growth buckets
split-places growth is buckets all =
    one_map _ _ (λ q. get-places (grown growth) _ q ∙ moved growth is buckets all q ∙ sym (get-places growth buckets q))

absent_at : (m : PlaceMap) (k q : List ℕ) → map.get m k ≡ None → (b : Bool) → same_key k q ≡ b
    → cond b None (map.get m q) ≡ map.get m q
absent_at m k q none true same = sym none ∙ ap (map.get m) (same_key-is k q same)
absent_at m k q none false same = refl

cond_twice : {A : Type 0} (b : Bool) (x y z : A) → cond b x (cond b y z) ≡ cond b x z
cond_twice true x y z = refl
cond_twice false x y z = refl

-- to take out what was put in leaves the places as they were
pub remove-insert : (m : PlaceMap) (k : List ℕ) (at : ℕ) → map.get m k ≡ None → map.remove (map.insert m k at) k ≡ m
remove-insert m k at none =
    one_map _ _
    (λ q. map.get-remove nat_list_cmp_total (map.insert m k at) k q
    ∙ ap (cond (eq_by_cmp key_cmp q k) None) (map.get-insert nat_list_cmp_total m k at q)
    ∙ cond_twice (eq_by_cmp key_cmp q k) None (Some at) (map.get m q)
    ∙ ap (λ b. cond b None (map.get m q)) (tie-same q k)
    ∙ absent_at m k q none _ refl)

-- to take out what isn't there changes nothing
pub remove-absent : (m : PlaceMap) (k : List ℕ) → map.get m k ≡ None → map.remove m k ≡ m
remove-absent m k none =
    one_map _ _
    (λ q. map.get-remove nat_list_cmp_total m k q ∙ ap (λ b. cond b None (map.get m q)) (tie-same q k)
    ∙ absent_at m k q none _ refl)

contains_at : (place : Option ℕ) (len : ℕ) → place ≡ None → cond (is_some place) len (len + 1) ≡ len + 1
contains_at place len none = ap (λ p. cond (is_some p) len (len + 1)) none

-- a new key is one more
pub len-added : (m : PlaceMap) (k : List ℕ) (at : ℕ) → map.get m k ≡ None → map.len (map.insert m k at) ≡ map.len m + 1
len-added m k at none = map.len-insert nat_list_cmp_total m k at ∙ contains_at (map.get m k) (map.len m) none

-- a key that is there is one less
pub len-left : (m : PlaceMap) (k : List ℕ) → is_some (map.get m k) ≡ true → map.len (map.remove m k) ≡ map.len m - 1
len-left m k there = map.len-remove nat_list_cmp_total m k ∙ ap (λ b. cond b (map.len m - 1) (map.len m)) there

-- there is a key where one is found
pub len-some : (m : PlaceMap) (k : List ℕ) → is_some (map.get m k) ≡ true → 1 ≤ map.len m
len-some m k there = by (cases_eq (map.len m) 0)
  where
    by : (map.len m ≡ 0) ⊎ (map.len m ≢ 0) → 1 ≤ map.len m
    by (inl none) =
        absurd (true≢false
        (sym there ∙ ap (λ n. is_some (map.get n k)) (map.empty_of_len m none) ∙ ap is_some (map.get-empty key_cmp k)))
    by (inr some) = omega (arith, some)

-- one bucket without entries holds no places
pub first-places : places_of first_growth ([] ∷ []) ≡ map.empty
unfolding places_of
first-places = refl

-- so buckets begin
pub first-view : (buckets : List (List Entry)) → buckets ≡ [] ∷ []
    → ◌≡◌ {A = Places} (record { at = places_of first_growth buckets; buckets = length buckets }) no_places
first-view buckets is =
    let of_buckets : List (List Entry) → Places =
    λ bs. record { at = places_of first_growth bs; buckets = length bs } in
    let of_map : PlaceMap → Places = λ m. record { at = m; buckets = 1 } in
    ap of_buckets is ∙ ap of_map first-places

-- two equal parts make equal places
same_places : (a b : PlaceMap) (m n : ℕ) → a ≡ b → m ≡ n
    → ◌≡◌ {A = Places} (record { at = a; buckets = m }) (record { at = b; buckets = n })
same_places a b m n at_is buckets_is = λ i. record { at = at_is i; buckets = buckets_is i }

-- what buckets are seen as
abbrev pub view_of : Growth → List (List Entry) → Places
view_of growth buckets = record { at = places_of growth buckets; buckets = length buckets }

-- after an entry was put in
pub added-view : (growth : Growth) (buckets now : List (List Entry)) (places : Places) (entry : Entry) (bucket : ℕ)
    → view_of growth buckets ≡ places
    → bucket ≡ home growth entry.key → bucket < length buckets → map.get places.at entry.key ≡ None
    → now ≡ set buckets bucket (get_or buckets bucket [] ++ entry ∷ [])
    → view_of growth now ≡ record { at = map.insert places.at entry.key entry.at; buckets = places.buckets }
added-view growth buckets now places entry bucket view at inside none is =
    let at_is : places_of growth buckets ≡ places.at = ap (λ p. p.at) view in
    let buckets_is : length buckets ≡ places.buckets = ap (λ p. p.buckets) view in
    same_places _ _ _ _
    (ap (places_of growth) is
    ∙ added-places growth buckets entry bucket at inside (ap (λ m. map.get m entry.key) at_is ∙ none)
    ∙ ap (λ m. map.insert m entry.key entry.at) at_is)
    (ap length is ∙ length-set buckets bucket _ ∙ buckets_is)

-- after a key was taken out
pub left-view : (growth : Growth) (buckets now : List (List Entry)) (places : Places) (k : List ℕ) (bucket : ℕ)
    → view_of growth buckets ≡ places
    → bucket ≡ home growth k → bucket < length buckets → now ≡ set buckets bucket (without k (get_or buckets bucket []))
    → view_of growth now ≡ removed places k
unfolding removed
left-view growth buckets now places k bucket view at inside is =
    let at_is : places_of growth buckets ≡ places.at = ap (λ p. p.at) view in
    let buckets_is : length buckets ≡ places.buckets = ap (λ p. p.buckets) view in
    same_places _ _ _ _
    (ap (places_of growth) is ∙ left-places growth buckets k bucket at inside ∙ ap (λ m. map.remove m k) at_is)
    (ap length is ∙ length-set buckets bucket _ ∙ buckets_is)

-- after a split
pub split-view : (growth next : Growth) → IsGrowth growth → (buckets now : List (List Entry)) (places : Places)
    → view_of growth buckets ≡ places
    → next ≡ grown growth → length buckets ≡ growth.size + growth.split → now ≡ split_buckets next growth.split buckets
    → view_of next now ≡ record { at = places.at; buckets = places.buckets + 1 }
split-view growth next sound buckets now places view next_is all is =
    let at_is : places_of growth buckets ≡ places.at = ap (λ p. p.at) view in
    let buckets_is : length buckets ≡ places.buckets = ap (λ p. p.buckets) view in
    let longer : length (split_buckets next growth.split buckets) ≡ places.buckets + 1 =
    length-append
    (set buckets growth.split (part_of next growth.split (get_or buckets growth.split [])))
    (part_of next (length buckets) (get_or buckets growth.split []) ∷ [])
    ∙ ap (λ n. n + 1) (length-set buckets growth.split _ ∙ buckets_is) in
    same_places _ _ _ _
    (ap (λ n. places_of n now) next_is
    ∙ ap (places_of (grown growth)) (is ∙ ap (λ n. split_buckets n growth.split buckets) next_is)
    ∙ split-places growth sound buckets all
    ∙ at_is)
    (ap length is ∙ longer)

-- no places are of no keys
pub len-none : map.len (map.empty {X = ℕ} {R = key_cmp}) ≡ 0
len-none = map.len-empty key_cmp ℕ

pub ruleset steps = (get-places, key-below, added-places, left-places, split-places, first-places)

-- an insertion that splits no bucket
pub inserted-alone : (places : Places) (k : List ℕ) (at keys : ℕ) → map.get places.at k ≡ None
    → keys ≡ map.len places.at + 1 → is_crowded keys places.buckets ≡ false
    → ◌≡◌ {A = Places} (record { at = map.insert places.at k at; buckets = places.buckets }) (inserted places k at)
unfolding inserted
inserted-alone places k at keys none is calm =
    let of_buckets : ℕ → Places = λ n. record { at = map.insert places.at k at; buckets = n } in
    ap of_buckets
    (ap (λ b. cond b (places.buckets + 1) places.buckets) (sym calm)
    ∙ ap (λ n. buckets_for n places.buckets) (is ∙ sym (len-added places.at k at none)))

-- one that splits a bucket
pub inserted-split : (places : Places) (k : List ℕ) (at keys : ℕ) → map.get places.at k ≡ None
    → keys ≡ map.len places.at + 1 → is_crowded keys places.buckets ≡ true
    → ◌≡◌ {A = Places} (record { at = map.insert places.at k at; buckets = places.buckets + 1 }) (inserted places k at)
unfolding inserted
inserted-split places k at keys none is crowded =
    let of_buckets : ℕ → Places = λ n. record { at = map.insert places.at k at; buckets = n } in
    ap of_buckets
    (ap (λ b. cond b (places.buckets + 1) places.buckets) (sym crowded)
    ∙ ap (λ n. buckets_for n places.buckets) (is ∙ sym (len-added places.at k at none)))

-- one that found no memory for its split is undone
pub inserted-undone : (places : Places) (k : List ℕ) (at : ℕ) → map.get places.at k ≡ None
    → removed (record { at = map.insert places.at k at; buckets = places.buckets }) k ≡ places
unfolding removed
inserted-undone places k at none =
    let of_map : PlaceMap → Places = λ m. record { at = m; buckets = places.buckets } in
    ap of_map (remove-insert places.at k at none)

-- an insertion counts one key more
pub inserted-len : (places : Places) (k : List ℕ) (at : ℕ) → map.get places.at k ≡ None
    → map.len (inserted places k at).at ≡ map.len places.at + 1
unfolding inserted
inserted-len places k at none = len-added places.at k at none

-- to take out what isn't there changes nothing
pub removed-absent : (places : Places) (k : List ℕ) → map.get places.at k ≡ None → removed places k ≡ places
unfolding removed
removed-absent places k none =
    let of_map : PlaceMap → Places = λ m. record { at = m; buckets = places.buckets } in
    ap of_map (remove-absent places.at k none)

-- a removal counts one key less
pub removed-len : (places : Places) (k : List ℕ) → is_some (map.get places.at k) ≡ true
    → map.len (removed places k).at ≡ map.len places.at - 1
unfolding removed
removed-len places k there = len-left places.at k there

pub ruleset counts =
    (inserted-alone, inserted-split, inserted-undone, inserted-len, removed-absent, removed-len, len-some, len-none)
