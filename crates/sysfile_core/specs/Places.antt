-- Where slots lie in the bytes of a file, and which of them are open.
use Rattle.std.specs.Prelude.{◌≡◌, ℕ, ◌+◌, ◌*◌, ◌≤◌, ◌<◌, ◌==◌, ◌&&◌, ◌⊎◌, Bool, false, nat_le, List, Option, None}
use Rattle.std.specs.Prelude.{Some, take, drop, length, get_or, if◌then◌else◌}
use Rattle.host_io.specs.DiskState.{FileState, is_dirty}
use Rattle.sysfile_core.specs.declared.place.TheConstants.{OPEN, SLOT_SPACE}

-- the place of a slot: slot 0 lies at 0 and slot 1 at 4,096
abbrev pub place_of : ℕ → ℕ
place_of which = which * SLOT_SPACE

-- the bytes have a slot of this size at a place, and its gate is open
abbrev pub is_open : ℕ → ℕ → List ℕ → Bool
is_open place size bytes = nat_le (place + size) (length bytes) && (get_or bytes place 0 == OPEN)

-- the open slot of this size at a place, if there is one
unfoldable pub slot_at : ℕ → ℕ → List ℕ → Option (List ℕ)
slot_at place size bytes = if is_open place size bytes then Some (take size (drop place bytes)) else None

-- a crash leaves what stands at a place, or nothing stands there
abbrev pub IsClean : FileState → ℕ → Type 0
IsClean s at = (is_dirty s at ≡ false) × ((at < s.synced) ⊎ (length s.bytes ≤ at))

-- a crash leaves what stands from one place up to another
pub record IsKept (s : FileState) (from to : ℕ) : Type 0 where
  pub synced : to ≤ s.synced
  pub clean : (at : ℕ) → from ≤ at → at < to → is_dirty s at ≡ false
