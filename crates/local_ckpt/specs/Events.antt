-- What goes on at a node while a local checkpoint is on its way, and behind it.
use Rattle.std.specs.Prelude.{ℕ, List, [], ◌∷◌, ◌++◌, Option, None, Some}
use Rattle.sig_core.specs.declared.member.TxId.{TxId}
use Rattle.sig_core.specs.declared.redo.Redo.{Redo}
use Rattle.sig_core.specs.declared.redo.Redo.TheVariants as redo
use Rattle.sig_core.specs.Rows.{RowsState, abort_record, commit_record, complete_record, next_place, storing}
use Rattle.sig_core.specs.Table.{Rows}
use Rattle.sig_core.specs.declared.piece.Piece.{Piece}
use Rattle.redo_log.specs.Replaying.{applied}
use Rattle.local_ckpt.specs.Orderly.{image_in}
use Rattle.sig_core.specs.Walk.{WalkState, next_piece, noting, stepped}

-- a transaction prepares an image of a row, commits it, gives it up or is done with it; or the walk takes a step
pub data Event : Type 0 where
  Prepare : TxId → ℕ → List ℕ → Option (List ℕ) → Event
  Commit : TxId → List ℕ → ℕ → Event
  Abort : TxId → List ℕ → Event
  Complete : TxId → List ℕ → Event
  Step : Event

-- the rows after an event
abbrev pub changed : Event → RowsState → RowsState
changed (Prepare tx fragment key image) s = storing s tx key image
changed (Commit tx key epoch) s = commit_record s tx key epoch
changed (Abort tx key) s = abort_record s tx key
changed (Complete tx key) s = complete_record s tx key
changed Step s = s

abbrev pub log_if : Redo → Option (Option (List ℕ)) → List Redo → List Redo
log_if record_of None log = log
log_if record_of (Some image) log = record_of ∷ log

-- the log after an event, the newest record first: a commit and an abort are in it where something was prepared
abbrev pub logged : Event → RowsState → List Redo → List Redo
logged (Prepare tx fragment key image) s log = redo.Prepare tx fragment key image ∷ log
logged (Commit tx key epoch) s log = log_if (redo.Commit tx epoch key) (image_in s tx key) log
logged (Abort tx key) s log = log_if (redo.Abort tx key) (image_in s tx key) log
logged (Complete tx key) s log = log
logged Step s log = log

abbrev pub noting_if : WalkState → ℕ → Option (Option (List ℕ)) → WalkState
noting_if w epoch None = w
noting_if w epoch (Some image) = noting w epoch

abbrev pub stepped_by : RowsState → WalkState → Option ℕ → WalkState
stepped_by s w None = w
stepped_by s w (Some at) = stepped s w

-- the walk after an event: it is told of commits
abbrev pub walked : Event → RowsState → WalkState → WalkState
walked (Commit tx key epoch) s w = noting_if w epoch (image_in s tx key)
walked Step s w = stepped_by s w (next_place s w.place)
walked event s w = w

abbrev pub given_by : RowsState → WalkState → List Piece → Option ℕ → List Piece
given_by s w pieces None = pieces
given_by s w pieces (Some at) = pieces ++ next_piece s w ∷ []

-- the pieces that were given out after an event
abbrev pub given : Event → RowsState → WalkState → List Piece → List Piece
given Step s w pieces = given_by s w pieces (next_place s w.place)
given event s w pieces = pieces

-- A moment: the rows, the records of the log from the position of the walk on, the newest first, the walk, and the
-- pieces that it has given out, the oldest first.
pub record Moment : Type 0 where
  pub rows : RowsState
  pub log : List Redo
  pub walk : WalkState
  pub pieces : List Piece

abbrev pub moment : RowsState → List Redo → WalkState → List Piece → Moment
moment rows log walk pieces = record { rows = rows; log = log; walk = walk; pieces = pieces }

-- the moment behind an event
abbrev pub next : Event → Moment → Moment
next event m =
    moment (changed event m.rows) (logged event m.rows m.log) (walked event m.rows m.walk)
    (given event m.rows m.walk m.pieces)

-- and behind many, the first of them first
abbrev pub after : List Event → Moment → Moment
after [] m = m
after (event ∷ events) m = after events (next event m)

-- What an event makes of rows of which those that were committed later than an epoch are left out: a commit that isn't
-- later makes what was prepared the row.
abbrev pub left_by : ℕ → Event → RowsState → Rows → Rows
left_by epoch (Commit tx key at) s rows = applied epoch (redo.Commit tx at key) (image_in s tx key) rows
left_by epoch event s rows = rows

-- the rows that are committed up to an epoch, after events that began with these
abbrev pub left : ℕ → List Event → RowsState → Rows → Rows
left epoch [] s rows = rows
left epoch (event ∷ events) s rows = left epoch events (changed event s) (left_by epoch event s rows)
