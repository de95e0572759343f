-- What a disk holds, as the record of its calls tells, newest first.
use Rattle.std.specs.Prelude.{ℕ, ◌+◌, ◌-◌, ◌≤◌, ◌==◌, Bool, min, map, nat_le, nat_lt, ◌&&◌, List, [], ◌∷◌, ◌++◌, take}
use Rattle.std.specs.Prelude.{drop, length, replicate, get_or, if◌then◌else◌}
use Rattle.std.specs.List.{list_any, range_with_len}
use Rattle.host_io.specs.declared.dirty.DirtyRange.{DirtyRange}
use Rattle.host_io.specs.declared.limits.TheConstants.{FILES}
use Rattle.host_io.specs.Call.{Call, Wrote, Tore, Synced, Lost}

-- a file: its bytes as read, the synced end, and the dirty ranges, the oldest first
pub record FileState : Type 0 where
  pub bytes : List ℕ
  pub synced : ℕ
  pub dirty : List DirtyRange

-- one that was never written
abbrev pub fresh_file : FileState
fresh_file = record { bytes = []; synced = 0; dirty = [] }

-- a range lies within so many bytes
abbrev pub LiesWithin : ℕ → DirtyRange → Type 0
LiesWithin size range = (range.from ≤ range.to) × (range.to ≤ size)

abbrev pub is_dirty : FileState → ℕ → Bool
is_dirty s at = list_any (λ range. nat_le range.from at && nat_lt at range.to) s.dirty

-- bytes filled up with 0 to an end
abbrev pub filled_up : ℕ → List ℕ → List ℕ
filled_up end bytes = bytes ++ replicate (end - length bytes) 0

-- a piece put over bytes at a place
abbrev pub put_over : ℕ → List ℕ → List ℕ → List ℕ
put_over at piece bytes = take at bytes ++ piece ++ drop (at + length piece) bytes

-- A piece laid down at a place. A gap before it is filled with 0; an empty piece changes nothing.
abbrev pub laid : ℕ → List ℕ → List ℕ → List ℕ
laid at [] bytes = bytes
laid at (byte ∷ piece) bytes = put_over at (byte ∷ piece) (filled_up (at + length (byte ∷ piece)) bytes)

-- what a write makes dirty: all that was asked for, and the gap before it, as far as the file goes
abbrev pub dirtied : ℕ → ℕ → ℕ → ℕ → DirtyRange
dirtied at asked before now = record { from = min at before; to = min (at + asked) now }

-- a file after a write of so many bytes that laid down a piece
abbrev pub written : FileState → ℕ → ℕ → List ℕ → FileState
written s at asked piece =
    record s {
      bytes = laid at piece s.bytes;
      dirty = s.dirty ++ dirtied at asked (length s.bytes) (length (laid at piece s.bytes)) ∷ [];
    }

-- a file of which nothing is dirty
abbrev pub settled : List ℕ → FileState
settled bytes = record { bytes = bytes; synced = length bytes; dirty = [] }

-- a file after a call
abbrev pub file_after : Call → ℕ → FileState → FileState
file_after (Wrote file at bytes) this s = if file == this then written s at (length bytes) bytes else s
file_after (Tore file at asked piece) this s = if file == this then written s at (length asked) piece else s
file_after (Synced file) this s = if file == this then settled s.bytes else s
file_after (Lost files) this s = settled (get_or files this [])

-- a file after the calls of a record
abbrev pub state_of : List Call → ℕ → FileState
state_of [] file = fresh_file
state_of (call ∷ calls) file = file_after call file (state_of calls file)

-- all files after them, by their numbers
unfoldable pub states : List Call → List FileState
states calls = map (state_of calls) (range_with_len 0 FILES)
