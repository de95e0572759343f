-- What a local checkpoint on its way is seen as, and what its steps are.
use Rattle.std.specs.Prelude.{◌≡◌, ℕ, ◌+◌, ◌==◌, if◌then◌else◌, max, true, is_some, List, [], ◌++◌, length, Option}
use Rattle.std.specs.Prelude.{None, Some}
use Rattle.std.specs.List.{flat_map}
use Rattle.sig_core.specs.Rows.{RowsState, next_place}
use Rattle.sig_core.specs.declared.piece.Piece.{Piece}
use Rattle.sig_core.specs.declared.stored_row.StoredRow.{StoredRow}
use Rattle.sig_core.specs.declared.walk.Finished.{Finished}
use Rattle.sig_core.specs.Checkpoint.{head_bytes, row_bytes}
use Rattle.sig_core.specs.Passing.{passed_from}

-- The file that a checkpoint is in, and the position from which on the log belongs to it; the greatest epoch so far, of
-- its rows and of commits; the place below which all were passed, and the bytes that were given out.
pub record WalkState : Type 0 where
  pub file : ℕ
  pub from : ℕ
  pub epoch : ℕ
  pub place : ℕ
  pub size : ℕ

-- one that has passed nothing
abbrev pub begun : ℕ → ℕ → ℕ → WalkState
begun file from epoch = record { file = file; from = from; epoch = epoch; place = 0; size = 0 }

-- a row was committed in this epoch
abbrev pub noting : WalkState → ℕ → WalkState
noting w epoch = record w { epoch = max w.epoch epoch }

-- the head stands in front of all else
abbrev pub head_at : ℕ → List ℕ
head_at size = if size == 0 then head_bytes else []

-- the bytes of rows, behind so many
abbrev pub rows_at : ℕ → List StoredRow → List ℕ
rows_at size rows = head_at size ++ flat_map row_bytes rows

-- the bytes of the next piece
abbrev pub next_bytes : RowsState → WalkState → List ℕ
next_bytes s w = rows_at w.size (passed_from s w.place).rows

-- the next piece, at its place
abbrev pub next_piece : RowsState → WalkState → Piece
next_piece s w = record { file = w.file; at = w.size; bytes = next_bytes s w }

-- the walk behind it
abbrev pub stepped : RowsState → WalkState → WalkState
stepped s w = record w { place = (passed_from s w.place).place; size = w.size + length (next_bytes s w) }

-- what a step gives, and where it leaves the walk: nothing exactly where no place that wasn't passed has a row
abbrev pub Steps : RowsState → WalkState → Option Piece → WalkState → Type 0
Steps s w None after = (next_place s w.place ≡ None) × (after ≡ w)
Steps s w (Some piece) after =
    (is_some (next_place s w.place) ≡ true) × (piece ≡ next_piece s w) × (after ≡ stepped s w)

-- what a walk comes to
abbrev pub ended : WalkState → Finished
ended w = record { file = w.file; size = w.size; from = w.from; epoch = w.epoch }
