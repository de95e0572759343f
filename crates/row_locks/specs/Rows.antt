-- The lock of one row: who holds it and who waits, and what each call makes of it.
use Rattle.std.specs.Prelude.{ℕ, ◌+◌, Bool, true, false, ◌&&◌, List, [], ◌∷◌, ◌++◌}
use Rattle.sig_core.specs.declared.member.TxId.{TxId}
use Rattle.row_locks.specs.declared.mode.Mode.{Mode}
use Rattle.row_locks.specs.declared.mode.Lock.{Lock}
use Rattle.row_locks.specs.declared.mode.Lock.TheVariants.{Granted, Queued}
use Rattle.row_locks.specs.declared.claim.Holder.{Holder}
use Rattle.row_locks.specs.declared.claim.Wait.{Wait}
use Rattle.row_locks.specs.Holders.{others, agrees_with, holds, holds_enough, hold, first_other}
use Rattle.row_locks.specs.Queues.{wait_of, waits, without, raised, aged_all, is_open}

-- the lock of a row
pub record RowLock : Type 0 where
  pub holders : List Holder
  pub queue : List Wait

-- nobody holds it and nobody waits
abbrev pub unlocked : RowLock
unlocked = record { holders = []; queue = [] }

-- a lock, and how many requests in its queue were granted
pub record Served : Type 0 where
  pub lock : RowLock
  pub granted : ℕ

-- a lock, and what a request is answered
pub record Asked : Type 0 where
  pub lock : RowLock
  pub answer : Lock

-- a waiter is granted the lock once it stands first: its wait is open, and it agrees with all other holders
abbrev pub may_hold : Wait → List Holder → Bool
may_hold wait holders = is_open wait && agrees_with wait.tx wait.mode holders

-- the first in the queue is served and then the rest, where it may hold the lock; else nobody is
abbrev pub served_if : Bool → Served → Served → Served
served_if true one other = one
served_if false one other = other

-- the queue is served in order: while the first waiter may hold the lock it becomes the last holder. `granted` were so
-- before
abbrev pub served : ℕ → List Holder → List Wait → Served
served granted holders [] = record { lock = record { holders = holders; queue = [] }; granted = granted }
served granted holders (wait ∷ queue) =
    served_if (may_hold wait holders)
    (served (granted + 1) (hold wait.tx wait.mode holders) queue)
    (record { lock = record { holders = holders; queue = wait ∷ queue }; granted = granted })

-- a request is granted, and this is the lock after it
abbrev pub granting : RowLock → Asked
granting lock = record { lock = lock; answer = Granted }

-- a request of the transaction waits
abbrev pub queueing : TxId → List Holder → List Wait → Asked
queueing tx holders queue = record {
  lock = record { holders = holders; queue = queue };
  answer = Queued (first_other tx holders);
}

-- nobody waits
abbrev pub is_quiet : List Wait → Bool
is_quiet [] = true
is_quiet (wait ∷ queue) = false

-- a request of a transaction that doesn't wait and doesn't hold enough. Where it holds less: the only holder is raised
-- at once, which is the one that
-- agrees with all others, and else its request stands first in the queue. Where it holds nothing: it is granted if it
-- agrees with all holders and nobody waits,
-- and else its request stands last
abbrev pub asked_anew : (holds agrees quiet : Bool) → RowLock → TxId → Mode → Asked
asked_anew true true quiet lock tx mode = granting (record { holders = hold tx mode lock.holders; queue = lock.queue })
asked_anew true false quiet lock tx mode = queueing tx lock.holders (wait_of tx mode ∷ lock.queue)
asked_anew false true true lock tx mode = granting (record { holders = hold tx mode lock.holders; queue = lock.queue })
asked_anew false true false lock tx mode = queueing tx lock.holders (lock.queue ++ wait_of tx mode ∷ [])
asked_anew false false quiet lock tx mode = queueing tx lock.holders (lock.queue ++ wait_of tx mode ∷ [])

-- a lock as a value
abbrev pub row_lock : List Holder → List Wait → RowLock
row_lock holders queue = record { holders = holders; queue = queue }

-- a request of the transaction that doesn't wait and doesn't hold enough
abbrev pub anew : RowLock → TxId → Mode → Asked
anew lock tx mode =
    asked_anew (holds tx lock.holders) (agrees_with tx mode lock.holders) (is_quiet lock.queue) lock tx mode

-- a request, where the transaction holds enough, or waits already: then it keeps its place and its rounds, and waits
-- for the stronger of both modes
abbrev pub asked_by : (enough waiting : Bool) → RowLock → TxId → Mode → Asked
asked_by true waiting lock tx mode = granting lock
asked_by false true lock tx mode = queueing tx lock.holders (raised tx mode lock.queue)
asked_by false false lock tx mode = anew lock tx mode

-- a request of the transaction for this mode
abbrev pub asked : RowLock → TxId → Mode → Asked
asked lock tx mode = asked_by (holds_enough tx mode lock.holders) (waits tx lock.queue) lock tx mode

-- the transaction lets go of the lock, as holder and as waiter, and the queue is served
abbrev pub released : RowLock → TxId → Served
released lock tx = served 0 (others tx lock.holders) (without tx lock.queue)

-- the transaction waits no more, but holds what it holds, and the queue is served
abbrev pub unwaited : RowLock → TxId → Served
unwaited lock tx = served 0 lock.holders (without tx lock.queue)

-- nobody waits any more
abbrev pub unqueued : RowLock → RowLock
unqueued lock = record { holders = lock.holders; queue = [] }

-- a round later
abbrev pub grown_old : RowLock → RowLock
grown_old lock = record { holders = lock.holders; queue = aged_all lock.queue }
