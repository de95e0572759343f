-- What a local checkpoint is good for.
use Rattle.std.specs.Prelude.{◌≡◌, ℕ, ◌+◌, ◌≤◌, ◌<◌, ◌^◌, List, [], ◌∷◌, length, Option, None, Some, IfSome, Ok}
use Rattle.std.specs.List.{AllByRecursion, flat_map}
use Rattle.std.specs.FinMap as map
use Rattle.sig_core.specs.declared.member.TxId.{TxId}
use Rattle.sig_core.specs.declared.redo.Redo.{Redo}
use Rattle.sig_core.specs.declared.rows.Slot.{Slot}
use Rattle.sig_core.specs.declared.key.TheConstants.{KEY_BYTES}
use Rattle.sig_core.specs.declared.value.TheConstants.{VALUE_BYTES}
use Rattle.sig_core.specs.Rows.{RowsState, next_place, no_rows, put_row, row_of}
use Rattle.sig_core.specs.Table.{Rows}
use Rattle.lcp_store.specs.declared.row.Version.TheVariants.{Second}
use Rattle.lcp_store.specs.Laws.{IsRowOf, IsWordOf}
use Rattle.lcp_store.specs.Reading.{rows_in}
use Rattle.redo_log.specs.Laws.{bytes_in}
use Rattle.sig_core.specs.declared.piece.Piece.{Piece}
use Rattle.redo_log.specs.Replaying.{image_of, replayed}
use Rattle.local_ckpt.specs.Events.{Event, Moment, Prepare, after, changed, left, moment}
use Rattle.local_ckpt.specs.Orderly.{IsOrderly, image_in}
use Rattle.sig_core.specs.Walk.{begun}

-- Rows without places and records are orderly, and stay so.
pub record OrderlyRowsStaySo : Type 0 where
  pub none : IsOrderly no_rows
  pub put : (s : RowsState) (key value : List ℕ) (epoch : ℕ) → IsOrderly s
      → IsOrderly (put_row s key value epoch)
  pub kept : (event : Event) (s : RowsState) → IsOrderly s → IsOrderly (changed event s)

abbrev pub IsRowIf : ℕ → List ℕ → ℕ → Option (List ℕ) → Type 0
IsRowIf most key epoch None = Unit {0}
IsRowIf most key epoch (Some value) = IsRowOf Second most (record { key = key; epoch = Some epoch; value = value })

-- the row of the place, if it has one, can be read from a checkpoint, and isn't of a later epoch than this
abbrev pub IsReadable : ℕ → Option Slot → Type 0
IsReadable most None = Unit {0}
IsReadable most (Some slot) = IsRowIf most slot.key slot.epoch slot.row

-- the key and the image of a record can be read
pub record IsImage (key : List ℕ) (image : Option (List ℕ)) : Type 0 where
  pub key_is : IsWordOf 1 KEY_BYTES key
  pub image_is : IfSome image (IsWordOf 0 VALUE_BYTES)

-- what the log has as prepared behind all its records
abbrev pub last_image : List Redo → TxId → List ℕ → Option (Option (List ℕ))
last_image log tx key = image_of log (record { tx = tx; key = key })

-- what is prepared is in the log
abbrev pub HasPrepares : RowsState → List Redo → Type 0
HasPrepares s log =
    (tx : TxId) (key : List ℕ) (image : Option (List ℕ)) → image_in s tx key ≡ Some image
    → last_image log tx key ≡ Some image

-- What a walk begins with: orderly rows, none of them of a later epoch than is noted; the records of the log from a
-- position on, which have what is prepared now, and which change nothing of the rows.
pub record Begins (s : RowsState) (log : List Redo) (noted : ℕ) (before : Rows) : Type 0 where
  pub orderly : IsOrderly s
  pub table : (key : List ℕ) → map.get before key ≡ row_of s key
  pub readable : AllByRecursion (IsReadable noted) s.places
  pub images : (tx : TxId) (key : List ℕ) (image : Option (List ℕ)) → image_in s tx key ≡ Some image
      → IsImage key image
  pub prepared : HasPrepares s log
  pub redone : (epoch : ℕ) → noted ≤ epoch → replayed epoch before log ≡ before

-- what an event prepares can be read
abbrev pub IsEvent : Event → Type 0
IsEvent (Prepare tx fragment key image) = IsImage key image
IsEvent event = Unit {0}

abbrev pub at_first : RowsState → List Redo → ℕ → ℕ → ℕ → Moment
at_first s log file from noted = moment s log (begun file from noted) []

abbrev pub pieces_bytes : List Piece → List ℕ
pieces_bytes pieces = flat_map bytes_in pieces

-- The walk has ended behind some events, and others have followed. Then the bytes that it gave out are a checkpoint,
-- and its rows, with the records of the log from its position on, are just those that were committed up to an epoch,
-- whichever that is from the noted one on.
abbrev pub CheckpointsRestore : Type 0
CheckpointsRestore =
    (s : RowsState) (log : List Redo) (file from noted saved epoch : ℕ) (before : Rows) (meanwhile later : List Event)
    → Begins s log noted before → AllByRecursion IsEvent meanwhile
    → let m = after meanwhile (at_first s log file from noted) in
    next_place m.rows m.walk.place ≡ None → m.walk.epoch ≤ saved → saved < 2 ^ 64 → m.walk.epoch ≤ epoch
    → (rows : Rows) × (rows_in m.walk.file saved (pieces_bytes m.pieces) ≡ Ok rows)
    × (replayed epoch rows (after later m).log ≡ left epoch later m.rows (left epoch meanwhile s before))

-- from a place in a file on each piece lies where the one before ends
abbrev pub AreLaidFrom : ℕ → ℕ → List Piece → Type 0
AreLaidFrom file at [] = Unit {0}
AreLaidFrom file at (piece ∷ pieces) =
    (piece.file ≡ file) × (piece.at ≡ at) × AreLaidFrom file (at + length piece.bytes) pieces

-- The pieces of a walk lie one behind the other in its file, and are as many bytes as it says.
abbrev pub PiecesLieInOrder : Type 0
PiecesLieInOrder =
    (s : RowsState) (log : List Redo) (file from noted : ℕ) (events : List Event)
    → let m = after events (at_first s log file from noted) in
    AreLaidFrom file 0 m.pieces × (m.walk.size ≡ length (pieces_bytes m.pieces))
