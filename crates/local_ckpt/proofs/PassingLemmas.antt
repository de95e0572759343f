-- How a walk passes rows, one by one.
use Rattle.std.proofs.Common.{◌≡◌, true, ℕ, zero, suc, ◌+◌, ◌-◌, add-one, ◌<◌, ◌≤◌, ◌^◌, List, [], ◌++◌, drop}
use Rattle.std.proofs.Common.{slice_index_or, refl, ap, sym, ◌∙◌, subst, arith, append_assoc, append-nil}
use Rattle.std.specs.Prelude.{Option, None, Some, position}
use Rattle.std.specs.List.{flat_map}
use Rattle.std.proofs.lemmas.List.{get_or-drop}
use Rattle.std.proofs.lemmas.List.Quantifiers.{position-Some}
use Rattle.std.proofs.lemmas.Grind.{flat_map-append}
use Rattle.sig_core.specs.Rows.{RowsState, has_row, next_by, next_place}
use Rattle.sig_core.specs.declared.stored_row.StoredRow.{StoredRow}
use Rattle.sig_core.specs.Checkpoint.{row_bytes}
use Rattle.sig_core.specs.declared.walk.TheConstants.{PIECE_ROWS}
use Rattle.sig_core.specs.Passing.{Passed, pass, pass_by, pass_one, passed_from, row_in}
use Rattle.local_ckpt.specs.Passing.{IsRowPlace}

pub row_there : (s : RowsState) (from at : ℕ) → next_place s from ≡ Some at
    → has_row (slice_index_or s.places at None) ≡ true
unfolding next_place
row_there s from at is = by (position has_row (drop from s.places)) refl is
  where
    by : (o : Option ℕ) → position has_row (drop from s.places) ≡ o → next_by from o ≡ Some at
        → has_row (slice_index_or s.places at None) ≡ true
    by None e is = absurd cc
    by (Some more) e is =
        let place : from + more ≡ at = cc in
        let passes = (position-Some has_row (drop from s.places) more None e).1 in
        let here : slice_index_or (drop from s.places) more None ≡ slice_index_or s.places at None =
        get_or-drop from s.places more None ∙ ap (λ n. slice_index_or s.places n None) place in
        ap has_row (sym here) ∙ passes

pub row_place : (s : RowsState) (from at : ℕ) → next_place s from ≡ Some at → at + 1 < 2 ^ 64 → IsRowPlace s at
row_place s from at is small = record { row = row_there s from at is; small = small }

-- so many rows were passed from a place on, and their bytes stand behind some
pub record IsPassed (s : RowsState) (from : ℕ) (start : List ℕ) (n : ℕ) (place : ℕ) (bytes : List ℕ) : Type 0 where
  pub place_is : place ≡ (pass s n (record { rows = []; place = from })).place
  pub bytes_are : bytes ≡ start ++ flat_map row_bytes (pass s n (record { rows = []; place = from })).rows

pub none_passed : (s : RowsState) (from : ℕ) (start : List ℕ) → IsPassed s from start 0 from start
none_passed s from start = record { place_is = refl; bytes_are = sym (append-nil start) }

pub one_passed : (s : RowsState) (from : ℕ) (start : List ℕ) (n place at : ℕ) (bytes more : List ℕ)
    → IsPassed s from start n place bytes
    → next_place s place ≡ Some at → more ≡ bytes ++ flat_map row_bytes (row_in s (slice_index_or s.places at None))
    → IsPassed s from start (n + 1) (at + 1) more
one_passed s from start n place at bytes more is next added =
    let d : Passed = pass s n (record { rows = []; place = from }) in
    let here : next_place s d.place ≡ Some at = ap (next_place s) (sym is.place_is) ∙ next in
    let further : pass s (n + 1) (record { rows = []; place = from }) ≡ pass_by s d (Some at) =
    ap (λ m. pass s m (record { rows = []; place = from })) (add-one n) ∙ ap (pass_by s d) here in
    let row : List StoredRow = row_in s (slice_index_or s.places at None) in
    record {
      place_is = sym (ap (λ (p : Passed). p.place) further);
      bytes_are = added ∙ ap (λ w. w ++ flat_map row_bytes row) is.bytes_are
          ∙ append_assoc start (flat_map row_bytes d.rows) (flat_map row_bytes row)
          ∙ ap (λ w. start ++ w) (sym (flat_map-append row_bytes d.rows row))
          ∙ sym (ap (λ (p : Passed). start ++ flat_map row_bytes p.rows) further);
    }

-- where there is no next row, further turns change nothing
all_passed : (s : RowsState) (passed : Passed) (n more : ℕ) → next_place s (pass s n passed).place ≡ None
    → pass s (more + n) passed ≡ pass s n passed
all_passed s passed n zero none = ap (λ m. pass s m passed) (let e : zero + n ≡ n = omega arith in e)
all_passed s passed n (suc more) none =
    let e : suc more + n ≡ suc (more + n) = omega arith in
    ap (λ m. pass s m passed) e ∙ ap (pass_one s) (all_passed s passed n more none)
    ∙ ap (pass_by s (pass s n passed)) none

no_more : (s : RowsState) (from : ℕ) (start : List ℕ) (n most place : ℕ) (bytes : List ℕ)
    → IsPassed s from start n place bytes → n ≤ most
    → next_place s place ≡ None → IsPassed s from start most place bytes
no_more s from start n most place bytes is few none =
    let first : Passed = record { rows = []; place = from } in
    let d : Passed = pass s n first in
    let here : next_place s d.place ≡ None = ap (next_place s) (sym is.place_is) ∙ none in
    let same : most - n + n ≡ most = omega (arith, few) in
    let all : pass s most first ≡ d = ap (λ m. pass s m first) (sym same) ∙ all_passed s first n (most - n) here in
    record {
      place_is = is.place_is ∙ sym (ap (λ (p : Passed). p.place) all);
      bytes_are = is.bytes_are ∙ sym (ap (λ (p : Passed). start ++ flat_map row_bytes p.rows) all);
    }

-- the rows of a piece were passed, and their bytes stand behind some
pub record IsPiece (s : RowsState) (from : ℕ) (start : List ℕ) (place : ℕ) (bytes : List ℕ) : Type 0 where
  pub place_is : place ≡ (passed_from s from).place
  pub bytes_are : bytes ≡ start ++ flat_map row_bytes (passed_from s from).rows

whole : (s : RowsState) (from : ℕ) (start : List ℕ) (place : ℕ) (bytes : List ℕ)
    → IsPassed s from start PIECE_ROWS place bytes → IsPiece s from start place bytes
unfolding passed_from
whole s from start place bytes is = record { place_is = is.place_is; bytes_are = is.bytes_are }

pub full_piece : (s : RowsState) (from : ℕ) (start : List ℕ) (n place : ℕ) (bytes : List ℕ)
    → IsPassed s from start n place bytes
    → n ≤ PIECE_ROWS → PIECE_ROWS ≤ n → IsPiece s from start place bytes
full_piece s from start n place bytes is few all =
    let same : n ≡ PIECE_ROWS = omega (arith, few, all) in
    whole s from start place bytes (subst (λ m. IsPassed s from start m place bytes) same is)

pub last_piece : (s : RowsState) (from : ℕ) (start : List ℕ) (n place : ℕ) (bytes : List ℕ)
    → IsPassed s from start n place bytes
    → n ≤ PIECE_ROWS → next_place s place ≡ None → IsPiece s from start place bytes
last_piece s from start n place bytes is few none =
    whole s from start place bytes (no_more s from start n PIECE_ROWS place bytes is few none)

pub ruleset passes = (none_passed, one_passed)
