-- The entries of a bucket.
use Rattle.std.specs.Prelude.{ℕ, not, ◌==◌, if◌then◌else◌, List, [], ◌∷◌, filter, Option, None, Some}
use Rattle.sig_core.specs.Same.{same_key}
use Rattle.linear_hash.specs.declared.entry.Entry.{Entry}
use Rattle.linear_hash.specs.declared.growth.Growth.{Growth}
use Rattle.linear_hash.specs.Growth.{home}

-- the place that the first entry of a key has
abbrev pub place_in : List ℕ → List Entry → Option ℕ
place_in key [] = None
place_in key (entry ∷ entries) = if same_key entry.key key then Some entry.at else place_in key entries

-- the entries of other keys
abbrev pub without : List ℕ → List Entry → List Entry
without key entries = filter (λ entry. not (same_key entry.key key)) entries

-- the entries whose keys are in this bucket
abbrev pub part_of : Growth → ℕ → List Entry → List Entry
part_of growth bucket entries = filter (λ entry. home growth entry.key == bucket) entries
