-- Where rows stand: the bytes of all values, and for each key the place of its own.
use Rattle.std.specs.Prelude.{◌≡◌, ◌≤◌, ◌+◌, ◌⊎◌, ℕ, Bool, false, List, length, map, take, drop, position, Option, None, Some}
use Rattle.std.specs.Prelude.{nat_eq, ◌++◌}
use Rattle.std.specs.Cmp.Lexicographic.{pointwise}
use Rattle.std.specs.Map.{lookup}
use Rattle.sig_core.specs.Word.{is_unprintable}
use Rattle.row_map.specs.declared.rows.Stored.{Stored}

-- these bytes are a value
pub record IsValue (bytes : List ℕ) : Type 0 where
  pub most : length bytes ≤ 200
  pub printable : position is_unprintable bytes ≡ None

-- the bytes that stand there
abbrev pub value_at : List ℕ → Stored → List ℕ
value_at bytes stored = take stored.len (drop stored.at bytes)

abbrev pub row_at : List ℕ → List ℕ × Stored → List ℕ × List ℕ
row_at bytes e = (e.0, value_at bytes e.1)

abbrev pub rows_at : List ℕ → List (List ℕ × Stored) → List (List ℕ × List ℕ)
rows_at bytes places = map (row_at bytes) places

-- two keys are the same
abbrev pub same : List ℕ → List ℕ → Bool
same = pointwise nat_eq

-- the place of a key's value
abbrev pub place_of : List (List ℕ × Stored) → List ℕ → Option Stored
place_of places key = lookup (same key) places

-- a value stands there
pub record IsStored (bytes : List ℕ) (stored : Stored) : Type 0 where
  pub within : stored.at + stored.len ≤ length bytes
  pub value : IsValue (value_at bytes stored)

-- one of two places is behind the other
abbrev pub AreApart : Stored → Stored → Type 0
AreApart one other = (one.at + one.len ≤ other.at) ⊎ (other.at + other.len ≤ one.at)

-- each key has a value, and two keys have places apart
pub record AreStored (bytes : List ℕ) (places : List (List ℕ × Stored)) : Type 0 where
  pub stored : (key : List ℕ) (one : Stored) → place_of places key ≡ Some one → IsStored bytes one
  pub apart : (key other : List ℕ) (one two : Stored) → same key other ≡ false
      → place_of places key ≡ Some one → place_of places other ≡ Some two
      → AreApart one two

-- the bytes, with a value over those that stood there
abbrev pub overwritten : ℕ → List ℕ → List ℕ → List ℕ
overwritten at value bytes = take at bytes ++ (value ++ drop (at + length value) bytes)
