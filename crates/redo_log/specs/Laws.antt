-- What the pieces of a log are.
use Rattle.std.specs.Prelude.{◌≡◌, ℕ, ◌+◌, ◌≤◌, ◌<◌, nat_eq, if◌then◌else◌, List, [], ◌∷◌, ◌++◌, length}
use Rattle.std.specs.List.{flat_map}
use Rattle.sig_core.specs.declared.redo.Redo.{Redo}
use Rattle.sig_core.specs.Redo.{bytes_of}
use Rattle.sig_core.specs.declared.piece.TheConstants.{PIECE_BYTES}
use Rattle.sig_core.specs.declared.ring.TheConstants.{LOG_FILE_BYTES}
use Rattle.sig_core.specs.declared.piece.Piece.{Piece}
use Rattle.redo_log.specs.LogState.{LogState, appended, cut_to, fresh_log, given_out, next_len, next_piece}
use Rattle.redo_log.specs.LogState.{with_reserved}
use Rattle.sig_core.specs.Ring.{file_of, place_of}

-- a call on a log that changes it: so many bytes are kept free, a record is appended, a piece is given out, a front is
-- cut
pub data LogCall : Type 0 where
  Keep : ℕ → LogCall
  Append : Redo → LogCall
  GiveOut : LogCall
  Cut : ℕ → LogCall

-- a log after a call
abbrev pub after : LogCall → LogState → LogState
after (Keep bytes) s = with_reserved s bytes
after (Append redo) s = appended s redo
after GiveOut s = given_out s
after (Cut at) s = cut_to s at

-- after many, the first of them first
abbrev pub after_all : List LogCall → LogState → LogState
after_all [] s = s
after_all (call ∷ calls) s = after_all calls (after call s)

-- the records that calls append
abbrev pub records_of : List LogCall → List Redo
records_of [] = []
records_of (Append redo ∷ calls) = redo ∷ records_of calls
records_of (call ∷ calls) = records_of calls

-- the piece that a call gives out, where there is one
abbrev pub piece_of : LogCall → LogState → List Piece
piece_of GiveOut s = if nat_eq (next_len s) 0 then [] else next_piece s ∷ []
piece_of call s = []

-- all pieces that calls give out
abbrev pub pieces_of : List LogCall → LogState → List Piece
pieces_of [] s = []
pieces_of (call ∷ calls) s = piece_of call s ++ pieces_of calls (after call s)

-- a piece lies at the place of a position: some bytes, not too many, within one file
pub record IsLaidAt (parity position : ℕ) (piece : Piece) : Type 0 where
  pub file : piece.file ≡ file_of parity position
  pub at : piece.at ≡ place_of position
  pub some : 0 < length piece.bytes
  pub few : length piece.bytes ≤ PIECE_BYTES
  pub within : piece.at + length piece.bytes ≤ LOG_FILE_BYTES

-- from a position on each piece lies where the one before ends
abbrev pub AreLaidFrom : ℕ → ℕ → List Piece → Type 0
AreLaidFrom parity position [] = Unit {0}
AreLaidFrom parity position (piece ∷ pieces) =
    IsLaidAt parity position piece × AreLaidFrom parity (position + length piece.bytes) pieces

abbrev pub bytes_in : Piece → List ℕ
bytes_in piece = piece.bytes

-- Whatever the calls on a fresh log: its pieces lie one behind the other from position 0 on, and they and what is left
-- are
-- the bytes of the records that were appended, each once.
abbrev pub PiecesAreTheRecords : Type 0
PiecesAreTheRecords =
    (generation parity : ℕ) (calls : List LogCall) → let s = fresh_log generation parity in
    AreLaidFrom parity 0 (pieces_of calls s)
    × (flat_map bytes_in (pieces_of calls s) ++ (after_all calls s).left ≡ flat_map bytes_of (records_of calls))
