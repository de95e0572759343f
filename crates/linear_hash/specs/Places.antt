-- What an index is seen as: places by keys, and the number of buckets.
use Rattle.std.specs.Prelude.{ℕ, ◌+◌, ◌*◌, ◌==◌, nat_lt, Bool, cond, if◌then◌else◌, List, [], ◌∷◌, ◌++◌, refl}
use Rattle.std.specs.Ordering.{nat_cmp}
use Rattle.std.specs.Cmp.Lexicographic.{slice_cmp}
use Rattle.std.specs.Coded.{Coded, code_by, coded×, coded_list, coded_ℕ}
use Rattle.std.specs.FinMap as map
use Rattle.linear_hash.specs.declared.entry.Entry.{Entry}
use Rattle.linear_hash.specs.declared.growth.Growth.{Growth}
use Rattle.linear_hash.specs.Growth.{home}

-- places by keys
abbrev pub PlaceMap : Type 0
PlaceMap = map.FinMap (slice_cmp nat_cmp) ℕ

-- the places, and how many buckets there are
pub record Places : Type 0 where
  pub at : PlaceMap
  pub buckets : ℕ

abbrev pub places_code : Coded Places
places_code =
    code_by (PlaceMap × ℕ) (coded× (map.code (coded_list coded_ℕ) coded_ℕ) coded_ℕ) (λ p. (p.at, p.buckets))
    (λ pair. record { at = pair.0; buckets = pair.1 }) (λ _. refl)

-- no keys, and one bucket
abbrev pub no_places : Places
no_places = record { at = map.empty; buckets = 1 }

-- so many keys are more than four for each bucket
abbrev pub is_crowded : ℕ → ℕ → Bool
is_crowded keys buckets = nat_lt (4 * buckets) keys

-- one bucket more where they are crowded
abbrev pub buckets_for : ℕ → ℕ → ℕ
buckets_for keys buckets = if is_crowded keys buckets then buckets + 1 else buckets

-- a key and its place are put in, and a bucket is added where the keys are then crowded
unfoldable pub inserted : Places → List ℕ → ℕ → Places
inserted places key at =
    record {
      at = map.insert places.at key at;
      buckets = buckets_for (map.len (map.insert places.at key at)) places.buckets;
    }

-- a key is taken out: the buckets stay
unfoldable pub removed : Places → List ℕ → Places
removed places key = record { at = map.remove places.at key; buckets = places.buckets }

-- of the entries of a bucket those whose keys belong there
abbrev pub pairs_at : (List ℕ → ℕ) → ℕ → List Entry → List (List ℕ × ℕ)
pairs_at home_of bucket [] = []
pairs_at home_of bucket (entry ∷ entries) =
    cond (home_of entry.key == bucket)
    ((entry.key, entry.at) ∷ pairs_at home_of bucket entries)
    (pairs_at home_of bucket entries)

-- those of all buckets, from this one on
abbrev pub pairs_from : (List ℕ → ℕ) → ℕ → List (List Entry) → List (List ℕ × ℕ)
pairs_from home_of bucket [] = []
pairs_from home_of bucket (entries ∷ buckets) =
    pairs_at home_of bucket entries ++ pairs_from home_of (bucket + 1) buckets

-- the places that buckets hold
unfoldable pub places_of : Growth → List (List Entry) → PlaceMap
places_of growth buckets = map.from_entries (pairs_from (home growth) 0 buckets)
