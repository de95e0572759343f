-- What the calls on a disk that tells its record come to.
use Rattle.std.specs.Prelude.{◌≡◌, ℕ, ◌-◌, ◌⊎◌, Bool, true, false, min, Option, Some, List, ◌∷◌, ◌++◌, take, drop}
use Rattle.std.specs.Prelude.{length}
use Rattle.host_io.specs.Call.{Call, Wrote, Tore, Synced, Lost}
use Rattle.host_io.specs.Image.{MayFollow}

-- a read at a place gave so many of a file's bytes, as many as stand there up to the buffer's length, and left the rest
-- of the buffer
pub record IsRead (bytes : List ℕ) (at : ℕ) (old new : List ℕ) (count : ℕ) : Type 0 where
  pub most : count ≡ min (length old) (length bytes - at)
  pub copied : new ≡ take count (drop at bytes) ++ drop count old

-- the record has one entry more
pub record IsAdded (calls : List Call) (told : Option (List Call)) (call : Call) : Type 0 where
  pub grown : told ≡ Some (call ∷ calls)
  pub allowed : MayFollow calls call

-- a write, where it succeeded and where it failed: then it did nothing, or laid down some piece
abbrev pub IsWritten : List Call → Option (List Call) → ℕ → ℕ → List ℕ → Bool → Type 0
IsWritten calls told file at bytes true = IsAdded calls told (Wrote file at bytes)
IsWritten calls told file at bytes false =
    (told ≡ Some calls) ⊎ ((piece : List ℕ) × IsAdded calls told (Tore file at bytes piece))

-- a sync, where it succeeded and where it failed
abbrev pub IsSynced : List Call → Option (List Call) → ℕ → Bool → Type 0
IsSynced calls told file true = IsAdded calls told (Synced file)
IsSynced calls told file false = told ≡ Some calls

-- the last call of a record is a cut of power
abbrev pub ends_cut : List Call → Bool
ends_cut (Lost files ∷ calls) = true
ends_cut calls = false

-- a cut of power, where power wasn't cut just before and where it was
abbrev pub IsCut : List Call → Option (List Call) → Bool → Type 0
IsCut calls told false = (files : List (List ℕ)) × IsAdded calls told (Lost files)
IsCut calls told true = told ≡ Some calls
