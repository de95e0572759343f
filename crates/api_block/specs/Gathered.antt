-- Rows that were gathered.
use Rattle.std.specs.Prelude.{ℕ, List, [], ◌∷◌}
use Rattle.std.specs.BTreeMap.{insert_entry}
use Rattle.std.specs.Cmp.Lexicographic.{slice_cmp}
use Rattle.std.specs.Ordering.{nat_cmp}

-- more rows join those in byte order of keys, each in place of the one that its key had
abbrev pub gathered : List (List ℕ × List ℕ) → List (List ℕ × List ℕ) → List (List ℕ × List ℕ)
gathered rows [] = rows
gathered rows (r ∷ more) = gathered (insert_entry (slice_cmp nat_cmp) rows r.0 r.1) more
