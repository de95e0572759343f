-- Rows that are put one after the other.
use Rattle.std.proofs.Common.{◌≡◌, ℕ, ◌+◌, ◌<◌, List, [], ◌∷◌, Bool, true, false, length, drop, refl, ap, sym, ◌∙◌}
use Rattle.std.proofs.lemmas.List.{drop_more}
use Rattle.std.specs.Prelude.{if◌then◌else◌, slice_index_or}
use Rattle.sig_core.specs.declared.view.Shape.{Shape}
use Rattle.sig_core.specs.Rows.{RowsState}
use Rattle.frag_map.specs.Layout.{holds}
use Rattle.node_core.specs.Fresh.{own_rows, with_rows}

-- the group's part of one row, and then of others
own_more : (shape : Shape) (node : ℕ) (s : RowsState) (row : List ℕ × List ℕ) (rows : List (List ℕ × List ℕ))
    (epoch : ℕ)
    → with_rows (with_rows s (own_rows shape node (row ∷ [])) epoch) (own_rows shape node rows) epoch
    ≡ with_rows s (own_rows shape node (row ∷ rows)) epoch
own_more shape node s row rows epoch = go (holds shape node row.0)
  where
    go : (b : Bool) → with_rows (with_rows s (if b then row ∷ [] else []) epoch) (own_rows shape node rows) epoch
        ≡ with_rows s (if b then row ∷ own_rows shape node rows else own_rows shape node rows) epoch
    go true = refl
    go false = refl

-- one row more, and those behind it
pub row_put : (shape : Shape) (node epoch : ℕ) (before after all : RowsState) (rows : List (List ℕ × List ℕ)) (i : ℕ)
    (row : List ℕ × List ℕ) → i < length rows
    → row ≡ slice_index_or rows i row → after ≡ with_rows before (own_rows shape node (row ∷ [])) epoch
    → with_rows before (own_rows shape node (drop i rows)) epoch ≡ all
    → with_rows after (own_rows shape node (drop (i + 1) rows)) epoch ≡ all
row_put shape node epoch before after all rows i row low is put left =
    ap (λ s. with_rows s (own_rows shape node (drop (i + 1) rows)) epoch) put
    ∙ own_more shape node before row (drop (i + 1) rows) epoch
    ∙ sym (ap (λ rs. with_rows before (own_rows shape node rs) epoch) (drop_more rows i row low)
    ∙ ap (λ r. with_rows before (own_rows shape node (r ∷ drop (i + 1) rows)) epoch) (sym is))
    ∙ left
