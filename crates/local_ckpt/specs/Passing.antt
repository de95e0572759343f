-- Where a walk finds rows.
use Rattle.std.specs.Prelude.{ℕ, ◌+◌, ◌<◌, ◌^◌, IsTrue, None, slice_index_or}
use Rattle.sig_core.specs.Rows.{RowsState, has_row}

-- the place has a row, and isn't the greatest that there is
pub record IsRowPlace (s : RowsState) (at : ℕ) : Type 0 where
  pub row : IsTrue (has_row (slice_index_or s.places at None))
  pub small : at + 1 < 2 ^ 64
