-- What a crash may leave while a slot is written.
use Rattle.std.specs.Prelude.{◌≡◌, ◌⊎◌, ℕ, ◌+◌, ◌≤◌, ◌<◌, Bool, true, List, ◌∷◌, Option, None, Some, length, get_or}
use Rattle.std.specs.Prelude.{◌≢◌}
use Rattle.host_io.specs.declared.limits.TheConstants.{FILES}
use Rattle.host_io.specs.Call.{Call}
use Rattle.host_io.specs.DiskState.{FileState, state_of}
use Rattle.host_io.specs.Image.{IsImage, IsRecord, LeavesOnly}
use Rattle.sysfile_core.specs.declared.place.TheConstants.{OPEN}
use Rattle.sysfile_core.specs.Places.{IsClean, IsKept, slot_at}
use Rattle.sysfile_core.specs.Runs.{Runs}
use Rattle.sysfile_core.specs.Writing.{slot_calls}

-- A slot of which this follows the gate was written at a place of a file, or its write failed at one of the calls. They
-- came after those of one record, and then there was another.
pub record IsWrite (before after : List Call) (ok : Bool) (file place : ℕ) (body : List ℕ) : Type 0 where
  pub kept : IsRecord before
  pub there : file < FILES
  pub some : 0 < length body
  pub runs : Runs (slot_calls (state_of before file).bytes file place body) before (Some after) ok

-- the bytes of one slot end where another begins, or before
abbrev pub AreApart : ℕ → ℕ → ℕ → ℕ → Type 0
AreApart place size other other_size = (other + other_size ≤ place) ⊎ (place + size ≤ other)

-- Whatever a crash leaves at any moment of the write, another slot that it could not change before stands as it stood.
abbrev pub OtherSlotStays : Type 0
OtherSlotStays =
    (before after : List Call) (ok : Bool) (file place : ℕ) (body : List ℕ) (other size : ℕ)
    → IsWrite before after ok file place body → AreApart place (1 + length body) other size → 0 < size
    → IsKept (state_of before file) other (other + size)
    → LeavesOnly after (length before)
    (λ image. slot_at other size (image file) ≡ slot_at other size (state_of before file).bytes)

-- And then it stands so after the write too, as far as that went.
abbrev pub OtherSlotIsKept : Type 0
OtherSlotIsKept =
    (before after : List Call) (ok : Bool) (file place : ℕ) (body : List ℕ) (other size : ℕ)
    → IsWrite before after ok file place body → AreApart place (1 + length body) other size → 0 < size
    → IsKept (state_of before file) other (other + size)
    → IsKept (state_of after file) other (other + size)
    × (slot_at other size (state_of after file).bytes ≡ slot_at other size (state_of before file).bytes)

-- a slot may be written at the place: no crash opens the gate that stands there, or none changes what follows it
abbrev pub MayBegin : FileState → ℕ → ℕ → Type 0
MayBegin s place size =
    (IsClean s place × (get_or s.bytes place 0 ≢ OPEN))
    ⊎ ((at : ℕ) → place < at → at < place + size → IsClean s at)

-- what is open is the new slot, or what a crash might have left open before
abbrev pub IsOldOrNew : FileState → ℕ → ℕ → List ℕ → Option (List ℕ) → Type 0
IsOldOrNew s place size slot found =
    (found ≡ None)
    ⊎ ((found ≡ Some slot) ⊎ ((image : List ℕ) × IsImage s image × (slot_at place size image ≡ found)))

-- Whatever a crash leaves at any moment of the write, the slot that is open at its place is whole: it is the new one,
-- or one that a crash might have left there before.
abbrev pub OpenSlotIsWhole : Type 0
OpenSlotIsWhole =
    (before after : List Call) (ok : Bool) (file place : ℕ) (body : List ℕ)
    → IsWrite before after ok file place body → MayBegin (state_of before file) place (1 + length body)
    → LeavesOnly after (length before)
    (λ image. IsOldOrNew (state_of before file) place (1 + length body) (OPEN ∷ body)
    (slot_at place (1 + length body) (image file)))

-- once it is written no crash changes it
abbrev pub WrittenSlotStays : Type 0
WrittenSlotStays =
    (before after : List Call) (file place : ℕ) (body : List ℕ) → IsWrite before after true file place body
    → IsKept (state_of after file) place (place + (1 + length body))
    × (slot_at place (1 + length body) (state_of after file).bytes ≡ Some (OPEN ∷ body))
