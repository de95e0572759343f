-- What a journal is seen as: how many bytes it has used and reserved, and which are still to be given out.
use Rattle.std.specs.Prelude.{◌≡◌, ◌≤◌, ◌<◌, ℕ, ◌+◌, ◌-◌, min, Bool, true, false, List, [], ◌++◌, length, take, drop}
use Rattle.std.specs.Prelude.{Option, None, Some, Result, Ok, Err}
use Rattle.sig_core.specs.declared.journal.JournalFault.{JournalFault}
use Rattle.sig_core.specs.declared.journal.JournalFault.TheVariants.{LogFull, NoMemory}
use Rattle.sig_core.specs.declared.journal.TheConstants.{JOURNAL_BYTES}
use Rattle.sig_core.specs.declared.piece.Piece.{Piece}
use Rattle.sig_core.specs.declared.piece.TheConstants.{PIECE_BYTES}
use Rattle.sig_core.specs.declared.redo.Redo.{Redo}
use Rattle.sig_core.specs.declared.ring.TheConstants.{LOG_FILE_BYTES}
use Rattle.sig_core.specs.Redo.{bytes_of, size_of}
use Rattle.sig_core.specs.Ring.{file_of, place_of}

-- bytes of records, and bytes that are kept free for records to come
pub record JournalState : Type 0 where
  pub used : ℕ
  pub reserved : ℕ

-- so many bytes more are kept free
abbrev pub reserving : JournalState → ℕ → JournalState
reserving j need = record { used = j.used; reserved = j.reserved + need }

-- so many fewer
abbrev pub unreserving : JournalState → ℕ → JournalState
unreserving j bytes = record { used = j.used; reserved = j.reserved - bytes }

-- a record of this size takes bytes that were kept free
abbrev pub appending : JournalState → ℕ → JournalState
appending j size = record { used = j.used + size; reserved = j.reserved - size }

-- what the answer to a reservation says: it is refused exactly where the sum exceeds the room, with the three numbers
abbrev pub Reserves : JournalState → ℕ → JournalState → Result (Unit {0}) JournalFault → Type 0
Reserves j need after (Ok done) = (j.used + j.reserved + need ≤ JOURNAL_BYTES) × (after ≡ reserving j need)
Reserves j need after (Err NoMemory) = after ≡ j
Reserves j need after (Err (LogFull used reserved asked)) =
    (JOURNAL_BYTES < j.used + j.reserved + need) × (used ≡ j.used) × (reserved ≡ j.reserved) × (asked ≡ need)
    × (after ≡ j)

-- What a journal has to give out, for the files of its parity: the position up to which all bytes were given out, and
-- those
-- behind it. One that doesn't keep its bytes has none to give out.
pub record OutletState : Type 0 where
  pub keeps : Bool
  pub parity : ℕ
  pub flushed : ℕ
  pub left : List ℕ

-- the position behind the last record
abbrev pub end_of : OutletState → ℕ
end_of o = o.flushed + length o.left

abbrev pub behind_by : Bool → OutletState → Redo → OutletState
behind_by true o redo = record o { left = o.left ++ bytes_of redo }
behind_by false o redo = record o { flushed = o.flushed + size_of redo }

-- a record was appended
abbrev pub behind : OutletState → Redo → OutletState
behind o redo = behind_by o.keeps o redo

-- how many bytes the next piece has: those that are left, up to a piece's and up to the end of the file
abbrev pub next_len : OutletState → ℕ
next_len o = min (min (length o.left) PIECE_BYTES) (LOG_FILE_BYTES - place_of o.flushed)

-- the next bytes, at their place
abbrev pub next_piece : OutletState → Piece
next_piece o = record { file = file_of o.parity o.flushed; at = place_of o.flushed; bytes = take (next_len o) o.left }

-- the next piece is given out
abbrev pub given_out : OutletState → OutletState
given_out o = record o { flushed = o.flushed + next_len o; left = drop (next_len o) o.left }

-- what a step gives out, and what it leaves: nothing exactly where all is given out
abbrev pub GivesOut : OutletState → Option Piece → OutletState → Type 0
GivesOut o None after = (o.left ≡ []) × (after ≡ o)
GivesOut o (Some piece) after = (0 < length o.left) × (piece ≡ next_piece o) × (after ≡ given_out o)

-- what is used counts from a position on
abbrev pub used_from : JournalState → OutletState → ℕ → JournalState
used_from j o at = record { used = end_of o - at; reserved = j.reserved }
