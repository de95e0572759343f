-- The bytes of a log in files, and what replaying them makes of rows.
use Rattle.std.specs.Prelude.{◌≡◌, ◌⊎◌, ◌<◌, ◌≤◌, ℕ, ◌+◌, ◌-◌, min, List, ◌++◌, length, take, drop, slice_index, Result}
use Rattle.std.specs.Prelude.{Ok, Err}
use Rattle.host_io.specs.Call.{Call}
use Rattle.host_io.specs.DiskState.{state_of}
use Rattle.host_io.specs.Fault.{Rose}
use Rattle.sig_core.specs.Table.{Rows}
use Rattle.sig_core.specs.declared.fault.ReadFault.{ReadFault}
use Rattle.sig_core.specs.declared.fault.ReadFault.TheVariants.{Damaged, DiskFault, NoMemory}
use Rattle.sig_core.specs.Ring.{file_of, place_of}
use Rattle.redo_log.specs.Replaying.{Replays, damage}

-- the bytes of the files of a disk as it reads, after the calls of its record
abbrev pub files_of : List Call → ℕ → List ℕ
files_of calls file = (state_of calls file).bytes

-- a byte stands at the place of a position
pub record IsStored (files : ℕ → List ℕ) (parity position byte : ℕ) : Type 0 where
  pub there : place_of position < length (files (file_of parity position))
  pub same : byte ≡ slice_index (files (file_of parity position)) (place_of position)

-- bytes stand at the places of the positions from one on
abbrev pub EachIsStored : (ℕ → List ℕ) → ℕ → ℕ → List ℕ → Type 0
EachIsStored files parity from bytes =
    (behind : ℕ) → behind < length bytes → IsStored files parity (from + behind) (slice_index bytes behind)

-- The bytes of a log from a position on, as files have them: so many, or fewer where the file of the next one ends
-- before its place.
pub record AreStored (files : ℕ → List ℕ) (parity from count : ℕ) (bytes : List ℕ) : Type 0 where
  pub each : EachIsStored files parity from bytes
  pub most : length bytes ≤ count
  pub all :
      length bytes < count
      → length (files (file_of parity (from + length bytes))) ≤ place_of (from + length bytes)

-- the bytes of a file from a place on, as many as there are up to a length, were put behind others
pub record IsPiece (file : List ℕ) (place len : ℕ) (old new : List ℕ) (count : ℕ) : Type 0 where
  pub most : count ≡ min len (length file - place)
  pub added : new ≡ old ++ take count (drop place file)

-- What replaying so many bytes of a log comes to, as files have them: what replaying these bytes does, if they are all
-- there. If they aren't, it is damaged: at a byte that fits no record, or behind the last.
abbrev pub ReplaysStored : ℕ → Rows → (ℕ → List ℕ) → ℕ → ℕ → ℕ → Rows → Result (Unit {0}) ReadFault → Type 0
ReplaysStored epoch before files parity from count rows (Ok done) =
    (bytes : List ℕ) × (AreStored files parity from count bytes × (length bytes ≡ count)
    × Replays epoch before parity from bytes rows (Ok done))
ReplaysStored epoch before files parity from count rows (Err NoMemory) = Unit {0}
ReplaysStored epoch before files parity from count rows (Err (DiskFault faults)) = Unit {0}
ReplaysStored epoch before files parity from count rows (Err (Damaged file at byte)) =
    (bytes : List ℕ) × (AreStored files parity from count bytes
    × (Replays epoch before parity from bytes rows (Err (Damaged file at byte))
    ⊎ (length bytes < count) × (Damaged file at byte ≡ damage parity from bytes (length bytes))
    × Replays epoch before parity from bytes rows (Ok tt)))

-- why bytes aren't read: a call on the disk failed, whose count rose to this, or memory was wanting
abbrev pub IsFault : ℕ → ℕ → ReadFault → Type 0
IsFault before now NoMemory = Unit {0}
IsFault before now (DiskFault count) = Rose before now × (count ≡ now)
IsFault before now (Damaged file at byte) = ⊥

-- a fault of the disk is answered only where its count rose, with the count, and leaves the rows
abbrev pub HasCause : ℕ → ℕ → Rows → Rows → Result (Unit {0}) ReadFault → Type 0
HasCause before now old new (Ok done) = Unit {0}
HasCause before now old new (Err NoMemory) = Unit {0}
HasCause before now old new (Err (DiskFault count)) = Rose before now × (count ≡ now) × (new ≡ old)
HasCause before now old new (Err (Damaged file at byte)) = Unit {0}
