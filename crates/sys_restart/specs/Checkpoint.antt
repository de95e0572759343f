-- The rows of a checkpoint.
use Rattle.std.specs.Prelude.{ℕ, Bool, true, false, nat_lt, List, take, length, Result, Ok, Err}
use Rattle.sig_core.specs.Table.{Rows}
use Rattle.sig_core.specs.declared.fault.ReadFault.{ReadFault}
use Rattle.sig_core.specs.declared.fault.ReadFault.TheVariants.{Damaged}
use Rattle.lcp_store.specs.Reading.{rows_in}

-- bytes of which rows are read; where they were cut short, they are damaged behind the last
abbrev pub unless_cut : ℕ → List ℕ → Bool → Result Rows ReadFault → Result Rows ReadFault
unless_cut file bytes cut (Err fault) = Err fault
unless_cut file bytes true (Ok rows) = Err (Damaged file (length bytes) 0)
unless_cut file bytes false (Ok rows) = Ok rows

-- the rows of a checkpoint of this size, of which these are the bytes
abbrev pub rows_in_size : ℕ → ℕ → ℕ → List ℕ → Result Rows ReadFault
rows_in_size file size latest bytes = unless_cut file bytes (nat_lt (length bytes) size) (rows_in file latest bytes)

-- The rows of a checkpoint of this size, which a file of these bytes begins with. None is of a later epoch than the
-- latest that they may be of.
abbrev pub rows_of_file : ℕ → ℕ → ℕ → List ℕ → Result Rows ReadFault
rows_of_file file size latest bytes = rows_in_size file size latest (take size bytes)
