-- What the rows of a node are seen as: places, and the records of transactions that are at work on them.
use Rattle.std.specs.Prelude.{◌≡◌, ℕ, ◌+◌, ◌&&◌, not, Bool, true, false, nat_le, is_some, List, [], ◌∷◌, ◌++◌, drop}
use Rattle.std.specs.Prelude.{position, remove, slice_get, slice_index_or, slice_set, Option, None, Some, Result, Ok}
use Rattle.std.specs.Prelude.{Err}
use Rattle.std.specs.List.{list_any}
use Rattle.sig_core.specs.declared.member.TxId.{TxId}
use Rattle.sig_core.specs.declared.op.Answer.{Answer}
use Rattle.sig_core.specs.declared.op.Answer.TheVariants.{Done}
use Rattle.sig_core.specs.declared.op.Op.{Op}
use Rattle.sig_core.specs.declared.rows.PendingRecord.{PendingRecord}
use Rattle.sig_core.specs.declared.rows.RowsFault.{RowsFault}
use Rattle.sig_core.specs.declared.rows.RowsFault.TheVariants.{Full, NoMemory}
use Rattle.sig_core.specs.declared.rows.Slot.{Slot}
use Rattle.sig_core.specs.declared.rows.TheConstants.{PLACES}
use Rattle.sig_core.specs.Op.{answer_to, image_of, key_of}
use Rattle.sig_core.specs.Same.{same_key, same_tx}

-- places, each free or taken by a key, and pending records, the oldest first
pub record RowsState : Type 0 where
  pub places : List (Option Slot)
  pub pending : List PendingRecord

abbrev pub no_rows : RowsState
no_rows = record { places = []; pending = [] }

-- the place is of this key
abbrev pub is_at : List ℕ → Option Slot → Bool
is_at key None = false
is_at key (Some slot) = same_key slot.key key

-- the place of the key, if it has one
abbrev pub place_of : List (Option Slot) → List ℕ → Option ℕ
place_of places key = position (is_at key) places

abbrev pub row_in : Option Slot → Option (List ℕ)
row_in None = None
row_in (Some slot) = slot.row

abbrev pub row_by : List (Option Slot) → Option ℕ → Option (List ℕ)
row_by places None = None
row_by places (Some at) = row_in (slice_index_or places at None)

-- the committed row of the key, if there is one
unfoldable pub row_of : RowsState → List ℕ → Option (List ℕ)
row_of s key = row_by s.places (place_of s.places key)

abbrev pub epoch_if : Option (List ℕ) → ℕ → Option ℕ
epoch_if None epoch = None
epoch_if (Some value) epoch = Some epoch

-- the epoch of the row of a place, if it has one
abbrev pub epoch_in : Option Slot → Option ℕ
epoch_in None = None
epoch_in (Some slot) = epoch_if slot.row slot.epoch

abbrev pub epoch_by : List (Option Slot) → Option ℕ → Option ℕ
epoch_by places None = None
epoch_by places (Some at) = epoch_in (slice_index_or places at None)

-- the epoch of the committed row of the key, if there is one
unfoldable pub row_epoch : RowsState → List ℕ → Option ℕ
row_epoch s key = epoch_by s.places (place_of s.places key)

-- how many places are taken
abbrev pub taken : List (Option Slot) → ℕ
taken [] = 0
taken (None ∷ places) = taken places
taken (Some slot ∷ places) = 1 + taken places

-- the least free place is taken
abbrev pub placed : Slot → List (Option Slot) → List (Option Slot)
placed slot [] = Some slot ∷ []
placed slot (None ∷ places) = Some slot ∷ places
placed slot (Some other ∷ places) = Some other ∷ placed slot places

abbrev pub no_row : List ℕ → Slot
no_row key = record { key = key; row = None; epoch = 0 }

abbrev pub with_place_by : List (Option Slot) → List ℕ → Option ℕ → List (Option Slot)
with_place_by places key None = placed (no_row key) places
with_place_by places key (Some at) = places

-- the key has a place: if it had none, the least free one
abbrev pub with_place : List (Option Slot) → List ℕ → List (Option Slot)
with_place places key = with_place_by places key (place_of places key)

abbrev pub kept_epoch : Option (List ℕ) → ℕ → ℕ
kept_epoch None epoch = 0
kept_epoch (Some value) epoch = epoch

-- the place of a key whose row is this, of this epoch; of no row no epoch is kept
abbrev pub with_row : List ℕ → Option (List ℕ) → ℕ → Slot
with_row key row epoch = record { key = key; row = row; epoch = kept_epoch row epoch }

abbrev pub set_row_by : List (Option Slot) → List ℕ → Option (List ℕ) → ℕ → Option ℕ → List (Option Slot)
set_row_by places key row epoch None = places
set_row_by places key row epoch (Some at) = slice_set places at (Some (with_row key row epoch))

-- this is the committed row of a key that has a place, and its epoch
abbrev pub set_row : List (Option Slot) → List ℕ → Option (List ℕ) → ℕ → List (Option Slot)
set_row places key row epoch = set_row_by places key row epoch (place_of places key)

-- the record is the transaction's on this key
abbrev pub is_of : TxId → List ℕ → PendingRecord → Bool
is_of tx key r = same_tx r.tx tx && same_key r.key key

abbrev pub is_on : List ℕ → PendingRecord → Bool
is_on key r = same_key r.key key

-- where the transaction's record on the key stands, if there is one
abbrev pub record_at : List PendingRecord → TxId → List ℕ → Option ℕ
record_at pending tx key = position (is_of tx key) pending

abbrev pub get_at : List PendingRecord → Option ℕ → Option PendingRecord
get_at pending None = None
get_at pending (Some at) = slice_get pending at

-- that record
unfoldable pub record_of : RowsState → TxId → List ℕ → Option PendingRecord
record_of s tx key = get_at s.pending (record_at s.pending tx key)

abbrev pub seen_by : RowsState → List ℕ → Option PendingRecord → Option (List ℕ)
seen_by s key None = row_of s key
seen_by s key (Some r) = r.image

-- the row as the transaction sees it: its own image, else the committed row
unfoldable pub seen : RowsState → TxId → List ℕ → Option (List ℕ)
seen s tx key = seen_by s key (record_of s tx key)

abbrev pub prepared : TxId → List ℕ → Option (List ℕ) → PendingRecord
prepared tx key image = record { tx = tx; key = key; image = image; committed = false; epoch = 0 }

abbrev pub recorded_by : List PendingRecord → PendingRecord → Option ℕ → List PendingRecord
recorded_by pending r None = pending ++ r ∷ []
recorded_by pending r (Some at) = slice_set pending at r

-- the transaction has prepared this image of the row: its record is made, or takes the place of the one before
unfoldable pub storing : RowsState → TxId → List ℕ → Option (List ℕ) → RowsState
storing s tx key image = record {
  places = with_place s.places key;
  pending = recorded_by s.pending (prepared tx key image) (record_at s.pending tx key);
}

-- the key has no place, and no more are given
unfoldable pub is_full : RowsState → List ℕ → Bool
is_full s key = not (is_some (place_of s.places key)) && nat_le PLACES (taken s.places)

-- what the answer to an image of a row says: it is refused exactly where the rows are full, with the count of places
-- taken
abbrev pub Stores : RowsState → TxId → List ℕ → Option (List ℕ) → RowsState → Result (Unit {0}) RowsFault → Type 0
Stores s tx key image after (Ok done) = (is_full s key ≡ false) × (after ≡ storing s tx key image)
Stores s tx key image after (Err NoMemory) = after ≡ s
Stores s tx key image after (Err (Full rows)) = (is_full s key ≡ true) × (rows ≡ taken s.places) × (after ≡ s)

-- what the answer to an operation says: a write that takes effect stores its image, and all else leaves the rows as
-- they are
abbrev pub PreparesBy : RowsState → TxId → Op → RowsState → Answer → Answer → Type 0
PreparesBy s tx op after Done answer =
    (answer ≡ Done) × (is_full s (key_of op) ≡ false) × (after ≡ storing s tx (key_of op) (image_of op))
PreparesBy s tx op after found answer = (answer ≡ found) × (after ≡ s)

abbrev pub Prepares : RowsState → TxId → Op → RowsState → Result Answer RowsFault → Type 0
Prepares s tx op after (Ok answer) = PreparesBy s tx op after (answer_to op (seen s tx (key_of op))) answer
Prepares s tx op after (Err NoMemory) = after ≡ s
Prepares s tx op after (Err (Full rows)) =
    (answer_to op (seen s tx (key_of op)) ≡ Done) × (is_full s (key_of op) ≡ true) × (rows ≡ taken s.places)
    × (after ≡ s)

abbrev pub put_row : RowsState → List ℕ → List ℕ → ℕ → RowsState
put_row s key value epoch = record {
  places = set_row (with_place s.places key) key (Some value) epoch;
  pending = s.pending;
}

-- nothing is at work on the key
abbrev pub is_idle : List PendingRecord → List ℕ → Bool
is_idle pending key = not (list_any (is_on key) pending)

-- a place whose key has no row and no record is free again
abbrev pub freed_if : List (Option Slot) → ℕ → Option (List ℕ) → Bool → List (Option Slot)
freed_if places at None true = slice_set places at None
freed_if places at row idle = places

abbrev pub freed_by : List (Option Slot) → Bool → Option ℕ → List (Option Slot)
freed_by places idle None = places
freed_by places idle (Some at) = freed_if places at (row_in (slice_index_or places at None)) idle

abbrev pub freed : List (Option Slot) → List PendingRecord → List ℕ → List (Option Slot)
freed places pending key = freed_by places (is_idle pending key) (place_of places key)

-- the record at a place is dropped
abbrev pub dropping : RowsState → List ℕ → ℕ → RowsState
dropping s key at = record { places = freed s.places (remove s.pending at) key; pending = remove s.pending at }

-- the record's image is the row, since this epoch
abbrev pub committed : PendingRecord → ℕ → PendingRecord
committed r epoch = record { tx = r.tx; key = r.key; image = r.image; committed = true; epoch = epoch }

-- a prepared record's image becomes the row
abbrev pub commit_if : RowsState → ℕ → PendingRecord → ℕ → Bool → RowsState
commit_if s at r epoch true = s
commit_if s at r epoch false =
    record { places = set_row s.places r.key r.image epoch; pending = slice_set s.pending at (committed r epoch) }

abbrev pub commit_by : RowsState → ℕ → Option ℕ → Option PendingRecord → RowsState
commit_by s epoch (Some at) (Some r) = commit_if s at r epoch r.committed
commit_by s epoch _ _ = s

-- the transaction's prepared record on the key is committed in this epoch
unfoldable pub commit_record : RowsState → TxId → List ℕ → ℕ → RowsState
commit_record s tx key epoch = commit_by s epoch (record_at s.pending tx key) (record_of s tx key)

abbrev pub is_as : Bool → Bool → Bool
is_as true committed = committed
is_as false committed = not committed

-- a record that is committed, or isn't, as is asked, is dropped
abbrev pub drop_if : RowsState → ℕ → PendingRecord → Bool → RowsState
drop_if s at r true = dropping s r.key at
drop_if s at r false = s

abbrev pub drop_by : RowsState → Bool → Option ℕ → Option PendingRecord → RowsState
drop_by s done (Some at) (Some r) = drop_if s at r (is_as done r.committed)
drop_by s done _ _ = s

-- a prepared record is given up
unfoldable pub abort_record : RowsState → TxId → List ℕ → RowsState
abort_record s tx key = drop_by s false (record_at s.pending tx key) (record_of s tx key)

-- a committed record is done with
unfoldable pub complete_record : RowsState → TxId → List ℕ → RowsState
complete_record s tx key = drop_by s true (record_at s.pending tx key) (record_of s tx key)

-- the place has a row
abbrev pub has_row : Option Slot → Bool
has_row slot = is_some (row_in slot)

-- the least place at or above this one that has a row
abbrev pub next_by : ℕ → Option ℕ → Option ℕ
next_by from None = None
next_by from (Some more) = Some (from + more)

unfoldable pub next_place : RowsState → ℕ → Option ℕ
next_place s from = next_by from (position has_row (drop from s.places))

abbrev pub state_by : Option PendingRecord → Option Bool
state_by None = None
state_by (Some r) = Some r.committed

-- whether the transaction has a record on the key, and whether that is committed
unfoldable pub record_state : RowsState → TxId → List ℕ → Option Bool
record_state s tx key = state_by (record_of s tx key)

abbrev pub epoch_or : Option Slot → ℕ
epoch_or None = 0
epoch_or (Some slot) = slot.epoch

-- the row at a place, of whichever epoch
abbrev pub IsRowAt : RowsState → ℕ → List ℕ → List ℕ → Type 0
IsRowAt s at key value =
    slice_index_or s.places at None ≡ Some (with_row key (Some value) (epoch_or (slice_index_or s.places at None)))
