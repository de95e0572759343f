-- What a journal keeps free for the records of its rows.
use Rattle.std.specs.Prelude.{ℕ, ◌+◌, ◌≤◌, Bool, true, false, List, [], ◌∷◌}
use Rattle.sig_core.specs.declared.rows.PendingRecord.{PendingRecord}
use Rattle.sig_core.specs.Journal.{JournalState}
use Rattle.sig_core.specs.Rows.{RowsState}
use Rattle.lqh_block.specs.Storage.{end_size}

-- the bytes that the end of a record will need, which is over once it is committed
abbrev pub due_if : PendingRecord → Bool → ℕ
due_if r true = 0
due_if r false = end_size r.tx r.key

abbrev pub due : PendingRecord → ℕ
due r = due_if r r.committed

abbrev pub due_of : List PendingRecord → ℕ
due_of [] = 0
due_of (r ∷ pending) = due r + due_of pending

-- the journal keeps free what the ends of all prepared records will need
pub record IsCovered (rows : RowsState) (journal : JournalState) : Type 0 where
  pub kept : due_of rows.pending ≤ journal.reserved
