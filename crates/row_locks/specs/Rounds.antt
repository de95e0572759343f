-- What goes through the locks of all keys.
use Rattle.std.specs.Prelude.{ℕ, Bool, true, false, not, List, [], ◌∷◌, filter, map, Option, None, Some}
use Rattle.std.specs.FinMap.{from_entries, entries}
use Rattle.sig_core.specs.declared.member.TxId.{TxId}
use Rattle.row_locks.specs.declared.claim.Wait.{Wait}
use Rattle.row_locks.specs.Queues.{is_open}
use Rattle.row_locks.specs.Rows.{RowLock, unqueued, grown_old}
use Rattle.row_locks.specs.Tables.{Locks, is_idle}

-- the locks of the same keys, each changed by f
abbrev pub map_locks : (RowLock → RowLock) → Locks → Locks
map_locks f locks = from_entries (map (λ e. (e.0, f e.1)) (entries locks))

-- somebody holds the lock of the entry, or waits for it
abbrev pub is_used : List ℕ × RowLock → Bool
is_used e = not (is_idle e.1)

-- nobody waits for any key, and a key that nobody holds isn't there
abbrev pub all_unqueued : Locks → Locks
all_unqueued locks = from_entries (filter is_used (map (λ e. (e.0, unqueued e.1)) (entries locks)))

-- a round later
abbrev pub round_later : Locks → Locks
round_later locks = map_locks grown_old locks

-- the wait has stood at eight rounds
abbrev pub is_expired : Wait → Bool
is_expired wait = not (is_open wait)

-- this transaction where it is so, and else what the rest gives
abbrev pub found_if : Bool → TxId → Option TxId → Option TxId
found_if true tx rest = Some tx
found_if false tx rest = rest

-- who waits first, in the order of the queue, of those that have stood at eight rounds
abbrev pub first_expired : List Wait → Option TxId
first_expired [] = None
first_expired (wait ∷ queue) = found_if (is_expired wait) wait.tx (first_expired queue)

-- a transaction at this key, and else what the rest gives
abbrev pub found_at : Option TxId → List ℕ → Option (TxId × List ℕ) → Option (TxId × List ℕ)
found_at None key rest = rest
found_at (Some tx) key rest = Some (tx, key)

-- the same of all keys, the first key first
abbrev pub expired_in : List (List ℕ × RowLock) → Option (TxId × List ℕ)
expired_in [] = None
expired_in (e ∷ es) = found_at (first_expired e.1.queue) e.0 (expired_in es)

-- the first wait, in byte order of the keys and then in the order of the queue, that has stood at eight rounds: who
-- waits, and for which key
abbrev pub expired : Locks → Option (TxId × List ℕ)
expired locks = expired_in (entries locks)
