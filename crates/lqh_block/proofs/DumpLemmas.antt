-- Places that have rows.
use Rattle.std.proofs.Common.{◌≡◌, ℕ, suc, ◌+◌, add-one, ◌<◌, ◌^◌, List, drop, slice_index_or, refl, ap, sym, ◌∙◌}
use Rattle.std.specs.Prelude.{Option, None, Some, IfSome, position}
use Rattle.std.proofs.lemmas.List.{get_or-drop}
use Rattle.std.proofs.lemmas.List.Quantifiers.{position-Some}
use Rattle.sig_core.specs.Rows.{RowsState, has_row, next_by, next_place}
use Rattle.lqh_block.specs.Dump.{Dumped, IsRowPlace, dumped, more, one_more}

pub row_place : (s : RowsState) (from at : ℕ) → next_place s from ≡ Some at → at + 1 < 2 ^ 64 → IsRowPlace s at
unfolding next_place
row_place s from at is small = by (position has_row (drop from s.places)) refl is
  where
    by : (o : Option ℕ) → position has_row (drop from s.places) ≡ o → next_by from o ≡ Some at → IsRowPlace s at
    by None e is = cc
    by (Some more) e is =
        let place : from + more ≡ at = cc in
        let passes = (position-Some has_row (drop from s.places) more None e).1 in
        let here : slice_index_or (drop from s.places) more None ≡ slice_index_or s.places at None =
        get_or-drop from s.places more None ∙ ap (λ n. slice_index_or s.places n None) place in
        record { row = ap has_row (sym here) ∙ passes; small = small }

-- so many rows are listed, and the next place is known
pub record IsListed (s : RowsState) (start : Dumped) (n : ℕ) (rows : List (List ℕ × List ℕ)) (next : Option ℕ) : Type 0
  where
    pub listed : dumped rows next ≡ more s n start
    pub place : IfSome next (IsRowPlace s)

pub none_listed : (s : RowsState) (rows : List (List ℕ × List ℕ)) (next : Option ℕ) → IfSome next (IsRowPlace s)
    → IsListed s (dumped rows next) 0 rows next
none_listed s rows next place = record { listed = refl; place = place }

pub one_listed : (s : RowsState) (start : Dumped) (n : ℕ) (rows after : List (List ℕ × List ℕ))
    (next then_next : Option ℕ) → IsListed s start n rows next
    → dumped after then_next ≡ one_more s (dumped rows next) → IfSome then_next (IsRowPlace s)
    → IsListed s start (n + 1) after then_next
one_listed s start n rows after next then_next is added place =
    let further : more s (suc n) start ≡ more s (n + 1) start = ap (λ m. more s m start) (sym (add-one n)) in
    record { listed = added ∙ ap (one_more s) is.listed ∙ further; place = place }

pub ruleset lists = (none_listed, one_listed)
