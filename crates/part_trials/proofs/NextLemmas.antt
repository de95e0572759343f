-- The next place that has a row.
use Rattle.std.proofs.Common.{◌≡◌, ℕ, ◌+◌, true, drop, slice_index_or, refl, ap, sym, ◌∙◌}
use Rattle.std.specs.Prelude.{Option, None, Some, position}
use Rattle.std.proofs.lemmas.List.{get_or-drop}
use Rattle.std.proofs.lemmas.List.Quantifiers.{position-Some}
use Rattle.sig_core.specs.Rows.{RowsState, has_row, next_by, next_place}

pub row_place : (s : RowsState) (from at : ℕ) → next_place s from ≡ Some at
    → has_row (slice_index_or s.places at None) ≡ true
unfolding next_place
row_place s from at is = by (position has_row (drop from s.places)) refl is
  where
    by : (o : Option ℕ) → position has_row (drop from s.places) ≡ o → next_by from o ≡ Some at
        → has_row (slice_index_or s.places at None) ≡ true
    by None e is = cc
    by (Some more) e is =
        let place : from + more ≡ at = cc in
        let passes = (position-Some has_row (drop from s.places) more None e).1 in
        let here : slice_index_or (drop from s.places) more None ≡ slice_index_or s.places at None =
        get_or-drop from s.places more None ∙ ap (λ n. slice_index_or s.places n None) place in
        ap has_row (sym here) ∙ passes
