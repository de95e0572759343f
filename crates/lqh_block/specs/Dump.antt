-- The rows of a node, for a client that asks for all of them.
use Rattle.std.specs.Prelude.{ℕ, zero, suc, ◌+◌, ◌<◌, ◌^◌, IsTrue, List, [], ◌∷◌, ◌++◌, slice_index_or, Option, None}
use Rattle.std.specs.Prelude.{Some}
use Rattle.sig_core.specs.declared.rows.Slot.{Slot}
use Rattle.sig_core.specs.declared.signal.Body.TheVariants.{Client}
use Rattle.sig_core.specs.declared.signal.client.ClientSignal.TheVariants.{DumpConf}
use Rattle.sig_core.specs.Place.{client}
use Rattle.sig_core.specs.Rows.{RowsState, has_row, next_place}
use Rattle.sig_core.specs.Step.{Step, sending}
use Rattle.lqh_block.specs.declared.dump.TheConstants.{DUMP_ROWS}
use Rattle.lqh_block.specs.State.{LqhState}

-- rows by their keys, and the place of the next one if there is any
pub record Dumped : Type 0 where
  pub rows : List (List ℕ × List ℕ)
  pub next : Option ℕ

abbrev pub dumped : List (List ℕ × List ℕ) → Option ℕ → Dumped
dumped rows next = record { rows = rows; next = next }

abbrev pub row_with : List ℕ → Option (List ℕ) → List (List ℕ × List ℕ)
row_with key None = []
row_with key (Some value) = (key, value) ∷ []

-- the row of a place, if it has one
abbrev pub row_of_slot : Option Slot → List (List ℕ × List ℕ)
row_of_slot None = []
row_of_slot (Some slot) = row_with slot.key slot.row

-- one row more, if there is a next one
abbrev pub one_more_by : RowsState → List (List ℕ × List ℕ) → Option ℕ → Dumped
one_more_by s rows None = dumped rows None
one_more_by s rows (Some at) = dumped (rows ++ row_of_slot (slice_index_or s.places at None)) (next_place s (at + 1))

abbrev pub one_more : RowsState → Dumped → Dumped
one_more s d = one_more_by s d.rows d.next

-- so many more
abbrev pub more : RowsState → ℕ → Dumped → Dumped
more s zero d = d
more s (suc n) d = one_more s (more s n d)

-- the first eight rows from a place on
unfoldable pub dumped_from : RowsState → ℕ → Dumped
dumped_from s at = more s DUMP_ROWS (dumped [] (next_place s at))

-- the place has a row, and isn't the greatest that there is
pub record IsRowPlace (s : RowsState) (at : ℕ) : Type 0 where
  pub row : IsTrue (has_row (slice_index_or s.places at None))
  pub small : at + 1 < 2 ^ 64

-- a client asks for rows
unfoldable pub dump_row : LqhState → ℕ → Step LqhState
dump_row s at = sending s client (Client (DumpConf (dumped_from s.rows at).rows (dumped_from s.rows at).next))
