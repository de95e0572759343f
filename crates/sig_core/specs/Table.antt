-- What a table is seen as.
use Rattle.std.specs.Prelude.{ℕ, List}
use Rattle.std.specs.Ordering.{nat_cmp}
use Rattle.std.specs.Cmp.Lexicographic.{slice_cmp}
use Rattle.std.specs.FinMap.{FinMap}

-- rows: values by their keys, in byte order of the keys
abbrev pub Rows : Type 0
Rows = FinMap (slice_cmp nat_cmp) (List ℕ)
