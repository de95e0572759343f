-- What is true of the rows of a replica at all times: no key has two places, and the key of each record has one.
use Rattle.std.specs.Prelude.{◌≡◌, true}
use Rattle.run_theory.specs.Lists.{Each}
use Rattle.sig_core.specs.declared.rows.PendingRecord.{PendingRecord}
use Rattle.sig_core.specs.Rows.{RowsState}
use Rattle.row_records.specs.Places.{AreApart, has_place}

pub record IsPlaced (s : RowsState) : Type 0 where
  pub apart : AreApart s.places
  pub placed : Each (λ (r : PendingRecord). has_place s.places r.key ≡ true) s.pending
