-- How many buckets there are, and which one a key is in.
use Rattle.std.specs.Prelude.{◌≤◌, ◌<◌, ℕ, ◌+◌, ◌*◌, ◌%◌, ◌^◌, nat_lt, if◌then◌else◌, List}
use Rattle.sig_core.specs.Digest.{hash_of}
use Rattle.linear_hash.specs.declared.growth.Growth.{Growth}

-- the bucket of a number: among the buckets of the next level where that of its own level was split
abbrev pub home_of : Growth → ℕ → ℕ
home_of growth hash =
    if nat_lt (hash % growth.size) growth.split then hash % (2 * growth.size) else hash % growth.size

-- the bucket of a key
unfoldable pub home : Growth → List ℕ → ℕ
home growth key = home_of growth (hash_of key)

-- one bucket
abbrev pub first_growth : Growth
first_growth = record { size = 1; split = 0 }

-- one more bucket was split: when all of a level are split, the next level begins
abbrev pub grown : Growth → Growth
grown growth =
    if nat_lt (growth.split + 1) growth.size
    then record { size = growth.size; split = growth.split + 1 }
    else record { size = 2 * growth.size; split = 0 }

-- buckets may have grown so far: the split ones are fewer than their level has
pub record IsGrowth (growth : Growth) : Type 0 where
  pub some : 1 ≤ growth.size
  pub below : growth.split < growth.size
  pub most : growth.size ≤ 2 ^ 60
