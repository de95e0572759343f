-- What a log is seen as.
use Rattle.std.specs.Prelude.{◌≡◌, ℕ, ◌+◌, ◌-◌, ◌^◌, ◌≤◌, ◌<◌, min, true, List, [], ◌++◌, length, drop}
use Rattle.std.specs.Prelude.{if◌then◌else◌, nat_lt, Option, None, Some}
use Rattle.sig_core.specs.declared.journal.TheConstants.{JOURNAL_BYTES}
use Rattle.sig_core.specs.declared.redo.Redo.{Redo}
use Rattle.sig_core.specs.Journal as outlet
use Rattle.sig_core.specs.Journal.{JournalState, OutletState}
use Rattle.sig_core.specs.Redo.{size_of}
use Rattle.sig_core.specs.Redo.{bytes_of}
use Rattle.sig_core.specs.declared.piece.Piece.{Piece}

-- The log of a generation in the files of a parity: the position that what is used counts from, the position up to
-- which
-- all bytes were given out, the bytes from there on, and how many bytes are kept free.
pub record LogState : Type 0 where
  pub generation : ℕ
  pub parity : ℕ
  pub start : ℕ
  pub flushed : ℕ
  pub left : List ℕ
  pub reserved : ℕ

-- a log, and how many bytes can be kept free before memory is wanted
pub record LogView : Type 0 where
  pub log : LogState
  pub room : ℕ

-- one without records
abbrev pub fresh_log : ℕ → ℕ → LogState
fresh_log generation parity =
    record { generation = generation; parity = parity; start = 0; flushed = 0; left = []; reserved = 0 }

-- the position behind the last byte
abbrev pub end_of : LogState → ℕ
end_of s = s.flushed + length s.left

-- the bytes from a position on; none where that was given out already
unfoldable pub bytes_from : LogState → ℕ → List ℕ
bytes_from s at = if nat_lt at s.flushed then [] else drop (at - s.flushed) s.left

-- the bytes that are used and kept free
abbrev pub journal_of : LogState → JournalState
journal_of s = record { used = end_of s - s.start; reserved = s.reserved }

-- so many bytes are kept free
abbrev pub with_reserved : LogState → ℕ → LogState
with_reserved s bytes = record s { reserved = bytes }

-- a record stands behind the others, in bytes that were kept free
abbrev pub appended : LogState → Redo → LogState
appended s redo = record s { left = s.left ++ bytes_of redo; reserved = s.reserved - size_of redo }

-- what is used counts from a later position
abbrev pub cut_to : LogState → ℕ → LogState
cut_to s at = record s { start = at }

-- what stands from a position on, which what is used counts from
abbrev pub rest_from : LogState → ℕ → LogState
rest_from s at = record s { start = at; flushed = at; left = drop (at - s.flushed) s.left }

-- what it has to give out
abbrev pub outlet_in : LogState → OutletState
outlet_in s = record { keeps = true; parity = s.parity; flushed = s.flushed; left = s.left }

-- the bytes of the next piece
abbrev pub next_len : LogState → ℕ
next_len s = outlet.next_len (outlet_in s)

-- the next bytes of the log, at their place
abbrev pub next_piece : LogState → Piece
next_piece s = outlet.next_piece (outlet_in s)

-- the next piece is given out
abbrev pub given_out : LogState → LogState
given_out s = record s { flushed = s.flushed + next_len s; left = drop (next_len s) s.left }

-- what a step gives out of a log, and what it leaves: nothing exactly where all is given out
abbrev pub GivesOut : LogState → Option Piece → LogState → Type 0
GivesOut s None t = (s.left ≡ []) × (t ≡ s)
GivesOut s (Some piece) t = (0 < length s.left) × (piece ≡ next_piece s) × (t ≡ given_out s)

-- how many bytes can be kept free more, by memory for so many bytes, of which so many are taken, and by positions
abbrev pub room_of : ℕ → ℕ → ℕ → ℕ → ℕ
room_of capacity len end reserved = min (capacity - len - reserved) (2 ^ 64 - 1 - end - reserved)

-- Why the numbers of a log fit: there are two parities, of so many bytes so many were given out, all that is used and
-- kept free is in the ring,
-- and the bytes that are kept free have memory and positions.
pub record IsLog (parity start flushed given len capacity reserved : ℕ) : Type 0 where
  pub two : parity ≤ 1
  pub part : given ≤ len
  pub started : start ≤ flushed
  pub within : flushed + (len - given) + reserved ≤ start + JOURNAL_BYTES
  pub room : len + reserved ≤ capacity
  pub positions : flushed + (len - given) + reserved < 2 ^ 64
