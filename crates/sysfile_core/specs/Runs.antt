-- Calls on a disk that are made one after the other.
use Rattle.std.specs.Prelude.{◌≡◌, ◌⊎◌, Bool, true, false, List, [], ◌∷◌, Option, Some}
use Rattle.host_io.specs.Call.{Call, Wrote, Tore, Synced, Lost}
use Rattle.host_io.specs.Disk.{IsWritten}
use Rattle.host_io.specs.Image.{MayFollow}

-- a call that was asked for failed: nothing was done, or a write laid down some piece
abbrev pub Fails : Call → List Call → Option (List Call) → Type 0
Fails (Wrote file at bytes) calls told = IsWritten calls told file at bytes false
Fails (Synced file) calls told = told ≡ Some calls
Fails (Tore file at asked piece) calls told = ⊥
Fails (Lost files) calls told = ⊥

-- These calls were asked for in their order, up to the first that failed, and added to the record. The answer is
-- whether all of them succeeded.
abbrev pub Runs : List Call → List Call → Option (List Call) → Bool → Type 0
Runs [] calls told ok = (told ≡ Some calls) × (ok ≡ true)
Runs (ask ∷ asks) calls told ok =
    (Fails ask calls told × (ok ≡ false)) ⊎ (MayFollow calls ask × Runs asks (ask ∷ calls) told ok)
