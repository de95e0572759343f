-- The rows of a node, place by place: a dump lists them from a place on, and each key has the row of its place.
use Rattle.std.proofs.Common.{◌≡◌, ◌+◌, ℕ, zero, suc, Bool, true, false, List, [], ◌∷◌, ◌++◌, refl, sym, ap, ◌∙◌, inl}
use Rattle.std.proofs.Common.{inr, append_assoc, arith}
use Rattle.std.proofs.lemmas.Bool.{false≢true}
use Rattle.std.proofs.lemmas.List.{drop-drop}
use Rattle.std.specs.Prelude.{if◌then◌else◌, drop, is_some, position, slice_index_or, Option, None, Some}
use Rattle.run_theory.proofs.Pasts.{each_from, in_append}
use Rattle.run_theory.specs.Lists.{IsIn}
use Rattle.sig_core.proofs.Firsts.{place_by, position-cons}
use Rattle.sig_core.proofs.Keys.{same_key-self}
use Rattle.sig_core.specs.declared.rows.Slot.{Slot}
use Rattle.sig_core.specs.Rows.{RowsState, has_row, next_by, next_place}
use Rattle.sig_core.specs.Same.{same_key}
use Rattle.row_records.proofs.KeyLemmas.{same}
use Rattle.lqh_block.specs.Dump.{Dumped, dumped, dumped_from, more, one_more_by, row_of_slot, row_with}
use Rattle.row_records.proofs.PlaceLemmas.{row_at}
use Rattle.row_records.specs.Places.{AreApart, has_place}
use Rattle.command_laws.proofs.dumps.GatheredRows.{AreDistinct, KeyedRow}

-- the rows of these places, in their order
abbrev pub rows_at : List (Option Slot) → List KeyedRow
rows_at [] = []
rows_at (slot ∷ places) = row_of_slot slot ++ rows_at places

-- those from a place on, if there is one
abbrev pub rows_from : RowsState → Option ℕ → List KeyedRow
rows_from s None = []
rows_from s (Some at) = rows_at (drop at s.places)

-- no row stands before the first place that has one
abbrev skipped : List (Option Slot) → Option ℕ → List KeyedRow
skipped places None = []
skipped places (Some n) = rows_at (drop n places)

skip_one : (slot : Option Slot) (places : List (Option Slot)) (at : Option ℕ) → skipped places at ≡ rows_at places
    → skipped (slot ∷ places) (place_by false at) ≡ rows_at places
skip_one slot places None is = is
skip_one slot places (Some n) is = is

none_skipped : (places : List (Option Slot)) → skipped places (position has_row places) ≡ rows_at places
none_skipped [] = refl
none_skipped (None ∷ places) =
    ap (skipped (None ∷ places)) (position-cons has_row None places)
    ∙ skip_one None places (position has_row places) (none_skipped places)
none_skipped (Some slot ∷ places) =
    ap (skipped (Some slot ∷ places)) (position-cons has_row (Some slot) places)
    ∙ by slot.row refl (none_skipped places)
  where
    by : (row : Option (List ℕ)) → slot.row ≡ row → skipped places (position has_row places) ≡ rows_at places
        → skipped (Some slot ∷ places) (place_by (is_some row) (position has_row places)) ≡ row_with slot.key slot.row
        ++ rows_at places
    by None is rest = skip_one (Some slot) places (position has_row places) rest
        ∙ ap (λ (r : Option (List ℕ)). row_with slot.key r ++ rows_at places) (sym is)
    by (Some value) is rest = refl

next_listed : (s : RowsState) (from : ℕ) → rows_from s (next_place s from) ≡ rows_at (drop from s.places)
unfolding next_place
next_listed s from = by (position has_row (drop from s.places)) ∙ none_skipped (drop from s.places)
  where
    by : (o : Option ℕ) → rows_from s (next_by from o) ≡ skipped (drop from s.places) o
    by None = refl
    by (Some n) = ap rows_at (sym (drop-drop n from s.places))

-- a place, and those behind it
at_place : (places : List (Option Slot)) (at : ℕ)
    → row_of_slot (slice_index_or places at None) ++ rows_at (drop (suc at) places) ≡ rows_at (drop at places)
at_place [] zero = refl
at_place [] (suc at) = refl
at_place (slot ∷ places) zero = refl
at_place (slot ∷ places) (suc at) = at_place places at

-- what is listed, and what is still to come, stays the same
abbrev all_of : RowsState → Dumped → List KeyedRow
all_of s d = d.rows ++ rows_from s d.next

one_listed : (s : RowsState) (rows : List KeyedRow) (next : Option ℕ)
    → all_of s (one_more_by s rows next) ≡ rows ++ rows_from s next
one_listed s rows None = refl
one_listed s rows (Some at) =
    let behind : at + 1 ≡ suc at = omega arith in
    append_assoc rows (row_of_slot (slice_index_or s.places at None)) (rows_from s (next_place s (at + 1)))
    ∙ ap (λ w. rows ++ (row_of_slot (slice_index_or s.places at None) ++ w))
    (next_listed s (at + 1) ∙ ap (λ n. rows_at (drop n s.places)) behind)
    ∙ ap (λ w. rows ++ w) (at_place s.places at)

more_listed : (s : RowsState) (n : ℕ) (d : Dumped) → all_of s (more s n d) ≡ all_of s d
more_listed s zero d = refl
more_listed s (suc n) d = one_listed s (more s n d).rows (more s n d).next ∙ more_listed s n d

-- a part of a dump, and what comes behind it
pub part_listed : (s : RowsState) (at : ℕ)
    → (dumped_from s at).rows ++ rows_from s (dumped_from s at).next ≡ rows_at (drop at s.places)
unfolding dumped_from
part_listed s at = more_listed s 8 (dumped [] (next_place s at)) ∙ next_listed s at

-- a row is that of a key with a place
listed_has : (places : List (Option Slot)) (q : KeyedRow) → IsIn q (rows_at places) → has_place places q.0 ≡ true
listed_has [] q inside = absurd inside
listed_has (None ∷ places) q inside = listed_has places q inside
listed_has (Some slot ∷ places) q inside = by slot.row inside (listed_has places q)
  where
    either : (b : Bool) {c : Bool} → c ≡ true → (if b then true else c) ≡ true
    either true is = refl
    either false is = is

    by : (row : Option (List ℕ)) → IsIn q (row_with slot.key row ++ rows_at places)
        → (IsIn q (rows_at places) → has_place places q.0 ≡ true)
        → (if same_key slot.key q.0 then true else has_place places q.0) ≡ true
    by None here rest = either (same_key slot.key q.0) (rest here)
    by (Some value) (inl is) rest =
        ap (λ b. if b then true else has_place places q.0)
        (ap (same_key slot.key) (ap (λ (x : KeyedRow). x.0) is) ∙ same_key-self slot.key)
    by (Some value) (inr here) rest = either (same_key slot.key q.0) (rest here)

-- where no key has two places no two rows have one key
pub listed_distinct : (places : List (Option Slot)) → AreApart places → AreDistinct (rows_at places)
listed_distinct [] apart = tt
listed_distinct (None ∷ places) apart = listed_distinct places apart
listed_distinct (Some slot ∷ places) apart = by slot.row (listed_distinct places apart.1)
  where
    by : (row : Option (List ℕ)) → AreDistinct (rows_at places) → AreDistinct (row_with slot.key row ++ rows_at places)
    by None rest = rest
    by (Some value) rest = (
      each_from (λ (r : KeyedRow). r.0 ≡ slot.key → ⊥) (rows_at places)
          (λ q inside is. false≢true (sym apart.0 ∙ ap (has_place places) (sym is) ∙ listed_has places q inside)),
      rest,
    )

-- a key has the row of its place
pub row_listed : (places : List (Option Slot)) (key value : List ℕ) → row_at places key ≡ Some value
    → IsIn (key, value) (rows_at places)
row_listed [] key value is = cc
row_listed (None ∷ places) key value is = row_listed places key value is
row_listed (Some slot ∷ places) key value is = by (same_key slot.key key) refl is (row_listed places key value)
  where
    own : (row : Option (List ℕ)) → slot.key ≡ key → row ≡ Some value
        → IsIn (key, value) (row_with slot.key row ++ rows_at places)
    own None same there = cc
    own (Some w) same there =
        let both : w ≡ value = cc in
        inl (ap (λ k. (k, value)) (sym same) ∙ ap (λ x. (slot.key, x)) (sym both))

    by : (b : Bool) → same_key slot.key key ≡ b → (if b then slot.row else row_at places key) ≡ Some value
        → (row_at places key ≡ Some value → IsIn (key, value) (rows_at places))
        → IsIn (key, value) (row_with slot.key slot.row ++ rows_at places)
    by true at there rest = own slot.row (same slot.key key at) there
    by false at there rest = in_append (key, value) (row_with slot.key slot.row) (rows_at places) (rest there)

pub listed_row : (places : List (Option Slot)) (key value : List ℕ) → AreApart places
    → IsIn (key, value) (rows_at places)
    → row_at places key ≡ Some value
listed_row [] key value apart inside = absurd inside
listed_row (None ∷ places) key value apart inside = listed_row places key value apart inside
listed_row (Some slot ∷ places) key value apart inside = by slot.row refl inside (listed_row places key value apart.1)
  where
    later : (b : Bool) → same_key slot.key key ≡ b → IsIn (key, value) (rows_at places) → row_at places key ≡ Some value
        → (if b then slot.row else row_at places key) ≡ Some value
    later true at there rest =
        absurd (false≢true (sym apart.0 ∙ ap (has_place places) (same slot.key key at)
        ∙ listed_has places (key, value) there))
    later false at there rest = rest

    by : (row : Option (List ℕ)) → slot.row ≡ row → IsIn (key, value) (row_with slot.key row ++ rows_at places)
        → (IsIn (key, value) (rows_at places) → row_at places key ≡ Some value)
        → (if same_key slot.key key then slot.row else row_at places key) ≡ Some value
    by None is there rest = later (same_key slot.key key) refl there (rest there)
    by (Some w) is (inl this) rest =
        let at : same_key slot.key key ≡ true = ap (same_key slot.key) (ap (λ (x : KeyedRow). x.0) this)
        ∙ same_key-self slot.key in
        ap (λ b. if b then slot.row else row_at places key) at ∙ is
        ∙ ap (λ v. Some v) (sym (ap (λ (x : KeyedRow). x.1) this))
    by (Some w) is (inr there) rest = later (same_key slot.key key) refl there (rest there)
