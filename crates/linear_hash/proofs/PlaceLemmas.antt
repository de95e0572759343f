-- The places that buckets hold are those that are found in the buckets of their keys.
use Rattle.std.proofs.Common.{◌≡◌, ◌≢◌, ◌<◌, ℕ, zero, suc, ◌+◌, List, [], ◌∷◌, get_or, refl, ap, ◌∙◌, arith}
use Rattle.std.specs.Prelude.{Option, Some, None}
use Rattle.std.specs.Cmp.Lexicographic.{nat_list_cmp_total}
use Rattle.std.specs.FinMap as map
use Rattle.linear_hash.specs.declared.entry.Entry.{Entry}
use Rattle.linear_hash.specs.declared.growth.Growth.{Growth}
use Rattle.linear_hash.specs.Growth.{home}
use Rattle.linear_hash.specs.Entries.{place_in}
use Rattle.linear_hash.specs.Places.{pairs_from, places_of}
use Rattle.linear_hash.proofs.FoundLemmas.{first_of_two, found-here, found-elsewhere, key_cmp}

-- past the key's bucket it isn't found
found-past : (home_of : List ℕ → ℕ) (bucket : ℕ) (buckets : List (List Entry)) (q : List ℕ) → home_of q < bucket
    → map.find key_cmp q (pairs_from home_of bucket buckets) ≡ None
found-past home_of bucket [] q past = refl
found-past home_of bucket (entries ∷ buckets) q past =
    let away : home_of q ≢ bucket = omega (arith, past) in
    found-elsewhere home_of bucket entries (pairs_from home_of (bucket + 1) buckets) q away
    ∙ found-past home_of (bucket + 1) buckets q (omega (arith, past))

first-alone : (place : Option ℕ) → first_of_two place None ≡ place
first-alone (Some at) = refl
first-alone None = refl

-- n buckets further on is the key's
found-from : (home_of : List ℕ → ℕ) (bucket : ℕ) (buckets : List (List Entry)) (n : ℕ) (q : List ℕ)
    → n + bucket ≡ home_of q
    → map.find key_cmp q (pairs_from home_of bucket buckets) ≡ place_in q (get_or buckets n [])
found-from home_of bucket [] n q there = refl
found-from home_of bucket (entries ∷ buckets) zero q there =
    let here : home_of q ≡ bucket = omega (arith, there) in
    found-here home_of bucket entries (pairs_from home_of (bucket + 1) buckets) q here
    ∙ ap (first_of_two (place_in q entries)) (found-past home_of (bucket + 1) buckets q (omega (arith, here)))
    ∙ first-alone (place_in q entries)
found-from home_of bucket (entries ∷ buckets) (suc n) q there =
    let away : home_of q ≢ bucket = omega (arith, there) in
    found-elsewhere home_of bucket entries (pairs_from home_of (bucket + 1) buckets) q away
    ∙ found-from home_of (bucket + 1) buckets n q (omega (arith, there))

-- the place of a key
pub get-places : (growth : Growth) (buckets : List (List Entry)) (q : List ℕ)
    → map.get (places_of growth buckets) q ≡ place_in q (get_or buckets (home growth q) [])
unfolding places_of
get-places growth buckets q =
    map.get-from_entries nat_list_cmp_total (pairs_from (home growth) 0 buckets) q
    ∙ found-from (home growth) 0 buckets (home growth q) q (omega arith)
