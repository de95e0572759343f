-- Who goes on holding the locks of all keys when all waits end.
use Rattle.std.specs.Prelude.{ℕ, Bool, List, [], filter, map}
use Rattle.std.specs.FinMap.{from_entries, entries}
use Rattle.sig_core.specs.declared.member.TxId.{TxId}
use Rattle.row_locks.specs.declared.claim.Holder.{Holder}
use Rattle.row_locks.specs.Rounds.{is_used}
use Rattle.row_locks.specs.Rows.{RowLock}
use Rattle.row_locks.specs.Tables.{Locks}

-- nobody waits for the lock any more, and of its holders those are left whose transactions pass a test
abbrev pub left_to : (TxId → Bool) → RowLock → RowLock
left_to stays lock = record { holders = filter (λ holder. stays holder.tx) lock.holders; queue = [] }

-- the same of all keys, where the test looks at the key too. A key that nobody holds isn't there
abbrev pub all_left_to : (List ℕ → TxId → Bool) → Locks → Locks
all_left_to stays locks = from_entries (filter is_used (map (λ e. (e.0, left_to (stays e.0) e.1)) (entries locks)))
