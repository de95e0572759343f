-- Rows that are gathered, one list after another.
use Rattle.std.proofs.Common.{◌≡◌, ℕ, List, [], ◌∷◌, ◌++◌, refl}
use Rattle.std.specs.BTreeMap.{insert_entry}
use Rattle.std.specs.Cmp.Lexicographic.{slice_cmp}
use Rattle.std.specs.Ordering.{nat_cmp}
use Rattle.api_block.specs.Gathered.{gathered}

pub gathered-append : (rows xs ys : List (List ℕ × List ℕ)) → gathered rows (xs ++ ys) ≡ gathered (gathered rows xs) ys
gathered-append rows [] ys = refl
gathered-append rows (x ∷ xs) ys = gathered-append (insert_entry (slice_cmp nat_cmp) rows x.0 x.1) xs ys

pub ruleset rows_join = (gathered-append)
