-- What rows are whose values lie where they were read.
use Rattle.sig_core.specs.declared.stored_row.StoredRow.{StoredRow}
use Rattle.lcp_store.specs.declared.row.LentRow.{LentRow}

-- the row itself
abbrev pub stored_of : LentRow → StoredRow
stored_of row = record { key = row.key; epoch = row.epoch; value = row.value.now }
