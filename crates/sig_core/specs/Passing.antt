-- How a walk passes rows.
use Rattle.std.specs.Prelude.{ℕ, zero, suc, ◌+◌, List, [], ◌∷◌, ◌++◌, slice_index_or, Option, None, Some}
use Rattle.sig_core.specs.declared.rows.Slot.{Slot}
use Rattle.sig_core.specs.Rows.{RowsState, next_place, row_epoch}
use Rattle.sig_core.specs.declared.stored_row.StoredRow.{StoredRow}
use Rattle.sig_core.specs.declared.walk.TheConstants.{PIECE_ROWS}

abbrev pub epoch_or : Option ℕ → ℕ
epoch_or None = 0
epoch_or (Some epoch) = epoch

abbrev pub row_with : RowsState → List ℕ → Option (List ℕ) → List StoredRow
row_with s key None = []
row_with s key (Some value) = record { key = key; epoch = Some (epoch_or (row_epoch s key)); value = value } ∷ []

-- the row of a place, if it has one, with the epoch of its key
abbrev pub row_in : RowsState → Option Slot → List StoredRow
row_in s None = []
row_in s (Some slot) = row_with s slot.key slot.row

-- rows, and the place behind the last of them
pub record Passed : Type 0 where
  pub rows : List StoredRow
  pub place : ℕ

abbrev pub pass_by : RowsState → Passed → Option ℕ → Passed
pass_by s passed None = passed
pass_by s passed (Some at) = record { rows = passed.rows ++ row_in s (slice_index_or s.places at None); place = at + 1 }

-- one row more, if there is a next one
abbrev pub pass_one : RowsState → Passed → Passed
pass_one s passed = pass_by s passed (next_place s passed.place)

-- so many more
abbrev pub pass : RowsState → ℕ → Passed → Passed
pass s zero passed = passed
pass s (suc more) passed = pass_one s (pass s more passed)

-- the rows of a piece, which are the first from a place on
unfoldable pub passed_from : RowsState → ℕ → Passed
passed_from s place = pass s PIECE_ROWS (record { rows = []; place = place })
