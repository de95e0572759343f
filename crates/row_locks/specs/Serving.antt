-- What of a queue is served, and who holds the lock then.
use Rattle.std.specs.Prelude.{◌≡◌, ℕ, ◌-◌, ◌≤◌, ◌&&◌, List, length, map, take, drop}
use Rattle.std.specs.List.{prefix_len}
use Rattle.row_locks.specs.declared.claim.Holder.{Holder}
use Rattle.row_locks.specs.declared.claim.Wait.{Wait}
use Rattle.row_locks.specs.Modes.{is_shared}
use Rattle.row_locks.specs.Holders.{holder_of}
use Rattle.row_locks.specs.Queues.{is_open}
use Rattle.row_locks.specs.Rows.{Served}

-- the holder that a waiter is once its request is granted
abbrev pub granted_to : Wait → Holder
granted_to wait = holder_of wait.tx wait.mode

-- how many shared requests that are open stand first in the queue
abbrev pub shared_run : List Wait → ℕ
shared_run queue = prefix_len (λ wait. is_open wait && is_shared wait.mode) queue

-- the last n of a list
abbrev pub last : {A : Type 0} → ℕ → List A → List A
last n items = drop (length items - n) items

-- as many as were granted stood first in this queue. In the same order they are the last holders, and the rest wait
pub record GrantsFirst (queue : List Wait) (after : Served) : Type 0 where
  pub held : last after.granted after.lock.holders ≡ map granted_to (take after.granted queue)
  pub waiting : after.lock.queue ≡ drop after.granted queue
  pub within : after.granted ≤ length queue
