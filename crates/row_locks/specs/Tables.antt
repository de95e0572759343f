-- The locks of all keys, and what each call makes of them.
use Rattle.std.specs.Prelude.{ℕ, Bool, true, false, ◌&&◌, List, [], ◌∷◌, Option, None, Some, slice_get, option_map}
use Rattle.std.specs.Ordering.{nat_cmp}
use Rattle.std.specs.Cmp.Lexicographic.{slice_cmp}
use Rattle.std.specs.BTreeMap.{BTreeMap}
use Rattle.std.specs.FinMap as map
use Rattle.sig_core.specs.declared.member.TxId.{TxId}
use Rattle.row_locks.specs.declared.mode.Mode.{Mode}
use Rattle.row_locks.specs.declared.claim.Holder.{Holder}
use Rattle.row_locks.specs.Holders.{first_other}
use Rattle.row_locks.specs.Queues.{waits}
use Rattle.row_locks.specs.Rows.{RowLock, Asked, Served, unlocked, asked, released, unwaited, is_quiet}

-- locks by the bytes of their keys, in byte order. A key that nobody holds or waits for isn't there
abbrev pub Locks : Type 0
Locks = map.FinMap (slice_cmp nat_cmp) RowLock

-- the locks that an ordered map keeps
abbrev pub locks_of : BTreeMap (List ℕ) RowLock → Locks
locks_of rows = map.from_entries rows.entries

-- the lock that is there, or else one that nobody holds or waits for
abbrev pub or_unlocked : Option RowLock → RowLock
or_unlocked None = unlocked
or_unlocked (Some lock) = lock

-- the lock of the key
abbrev pub lock_at : Locks → List ℕ → RowLock
lock_at locks key = or_unlocked (map.get locks key)

-- nobody holds the lock
abbrev pub is_free : List Holder → Bool
is_free [] = true
is_free (holder ∷ holders) = false

-- nobody holds it and nobody waits
abbrev pub is_idle : RowLock → Bool
is_idle lock = is_free lock.holders && is_quiet lock.queue

-- the locks without the key where its lock is idle, and else with that lock
abbrev pub kept_if : Bool → Locks → List ℕ → RowLock → Locks
kept_if true locks key lock = map.remove locks key
kept_if false locks key lock = map.insert locks key lock

-- the locks after the lock of the key came to be this
abbrev pub kept : Locks → List ℕ → RowLock → Locks
kept locks key lock = kept_if (is_idle lock) locks key lock

-- a request of the transaction for this key and mode
abbrev pub asked_at : Locks → List ℕ → TxId → Mode → Asked
asked_at locks key tx mode = asked (lock_at locks key) tx mode

-- the transaction lets go of the key, as holder and as waiter
abbrev pub released_at : Locks → List ℕ → TxId → Served
released_at locks key tx = released (lock_at locks key) tx

-- the transaction waits for the key no more
abbrev pub unwaited_at : Locks → List ℕ → TxId → Served
unwaited_at locks key tx = unwaited (lock_at locks key) tx

-- holder i of the key, from 0
abbrev pub holder_at : Locks → List ℕ → ℕ → Option TxId
holder_at locks key i = option_map (λ holder. holder.tx) (slice_get (lock_at locks key).holders i)

-- this, where it is so
abbrev pub some_if : {A : Type 0} → Bool → A → Option A
some_if true value = Some value
some_if false value = None

-- where the transaction waits, the first holder that isn't it
abbrev pub ahead_of : RowLock → TxId → Option TxId
ahead_of lock tx = some_if (waits tx lock.queue) (first_other tx lock.holders)

-- the same, of the lock of the key
abbrev pub ahead_at : Locks → List ℕ → TxId → Option TxId
ahead_at locks key tx = ahead_of (lock_at locks key) tx
