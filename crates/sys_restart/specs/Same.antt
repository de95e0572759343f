-- Whether rows are the same.
use Rattle.std.specs.Prelude.{ℕ, ◌&&◌, Bool, List, bytes_eq}
use Rattle.std.specs.Cmp.Lexicographic.{pointwise}
use Rattle.std.specs.FinMap as finmap
use Rattle.sig_core.specs.Table.{Rows}

-- the same key, and the same value
abbrev pub is_same_row : List ℕ × List ℕ → List ℕ × List ℕ → Bool
is_same_row one other = bytes_eq one.0 other.0 && bytes_eq one.1 other.1

-- in byte order of their keys
abbrev pub are_same : Rows → Rows → Bool
are_same rows other = pointwise is_same_row (finmap.entries rows) (finmap.entries other)
