-- Rows that are found to be the same are.
use Rattle.std.proofs.Common.{◌≡◌, ℕ, Bool, true, Bor, List, [], ◌∷◌, map, refl, ap, bytes_eq}
use Rattle.std.specs.Prelude.{◌&&◌}
use Rattle.std.specs.Bool.{Decides}
use Rattle.std.specs.Cmp.Lexicographic.{pointwise, pointwise_decides}
use Rattle.std.specs.FinMap as finmap
use Rattle.std.specs.Map.Iter.{deref_pair}
use Rattle.std.proofs.lemmas.Bool.{and_from, and_parts}
use Rattle.std.proofs.lemmas.Slice.Eq.{bytes_eq-Decides}
use Rattle.sig_core.specs.Table.{Rows}
use Rattle.sys_restart.specs.Same.{are_same, is_same_row}

row_decides : (one other : List ℕ × List ℕ) → Decides (is_same_row one other) (one ≡ other)
row_decides one other = (
  λ is.
      let both = and_parts (bytes_eq one.0 other.0) (bytes_eq one.1 other.1) is in
      let key : one.0 ≡ other.0 = (bytes_eq-Decides one.0 other.0).0 both.0 in
      let value : one.1 ≡ other.1 = (bytes_eq-Decides one.1 other.1).0 both.1 in
      λ i. (key i, value i),
  λ same.
      and_from (bytes_eq one.0 other.0) (bytes_eq one.1 other.1)
      ((bytes_eq-Decides one.0 other.0).1 (ap (λ (row : List ℕ × List ℕ). row.0) same))
      ((bytes_eq-Decides one.1 other.1).1 (ap (λ (row : List ℕ × List ℕ). row.1) same)),
)

pub same_themselves : (rows : Rows) → are_same rows rows ≡ true
same_themselves rows = (pointwise_decides row_decides (finmap.entries rows) (finmap.entries rows)).1 refl

pub same_rows_are : (rows other : Rows) → are_same rows other ≡ true → rows ≡ other
same_rows_are rows other is =
    finmap.same_entries_map rows other
    ((pointwise_decides row_decides (finmap.entries rows) (finmap.entries other)).0 is)

-- a row that is lent
abbrev Lent : Type 0
Lent = Bor (List ℕ) × Bor (List ℕ)

abbrev pub is_lent_same : Lent → Lent → Bool
is_lent_same one other = bytes_eq one.0.now other.0.now && bytes_eq one.1.now other.1.now

-- rows that are lent are the same where the rows are
pub lent_same : (ones others : List Lent)
    → pointwise is_lent_same ones others ≡ pointwise is_same_row (map deref_pair ones) (map deref_pair others)
lent_same [] [] = refl
lent_same [] (other ∷ others) = refl
lent_same (one ∷ ones) [] = refl
lent_same (one ∷ ones) (other ∷ others) =
    ap (λ (b : Bool). is_same_row (deref_pair one) (deref_pair other) && b) (lent_same ones others)
