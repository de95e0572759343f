-- The keys that a transaction has touched, in the order in which it first did.
use Rattle.std.specs.Prelude.{ℕ, Bool, true, false, ◌||◌, nat_lt, is_some, List, [], ◌∷◌, ◌++◌, length, position}
use Rattle.std.specs.Prelude.{slice_set, Option, None, Some}
use Rattle.sig_core.specs.declared.member.Member.{Member}
use Rattle.tc_block.specs.declared.touched.TheConstants.{KEYS}
use Rattle.tc_block.specs.declared.touched.Touched.{Touched}
use Rattle.sig_core.specs.Chain.{primary_of}
use Rattle.sig_core.specs.Same.{same_key}

-- this one is on the key
abbrev pub is_on : List ℕ → Touched → Bool
is_on key t = same_key t.key key

-- where the key stands, if it was touched
abbrev pub place_of : List Touched → List ℕ → Option ℕ
place_of keys key = position (is_on key) keys

-- the key was touched, or is among the first 64 that are
abbrev pub fits : List Touched → List ℕ → Bool
fits keys key = is_some (place_of keys key) || nat_lt (length keys) KEYS

-- a key that no write has taken effect on: it is committed at the primary alone
abbrev pub unwritten : List ℕ → List Member → Touched
unwritten key chain = record { key = key; chain = primary_of chain; written = false }

-- a key that a write has taken effect on, along this chain
abbrev pub written : List ℕ → List Member → Touched
written key chain = record { key = key; chain = chain; written = true }

-- the key is touched: it stands last, unless it was touched before
abbrev pub touched_by : List Touched → List ℕ → List Member → Option ℕ → List Touched
touched_by keys key chain None = keys ++ unwritten key chain ∷ []
touched_by keys key chain (Some at) = keys

abbrev pub touch : List Touched → List ℕ → List Member → List Touched
touch keys key chain = touched_by keys key chain (place_of keys key)

-- a write of the key took effect
abbrev pub written_by : List Touched → List ℕ → List Member → Option ℕ → List Touched
written_by keys key chain None = keys
written_by keys key chain (Some at) = slice_set keys at (written key chain)

abbrev pub write : List Touched → List ℕ → List Member → List Touched
write keys key chain = written_by keys key chain (place_of keys key)
