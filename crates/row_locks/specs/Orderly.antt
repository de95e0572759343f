-- What is true of the lock of every row, whatever was asked for and let go.
use Rattle.std.specs.Prelude.{◌≡◌, Bool, true, false, ◌&&◌, not, nat_lt, List, [], ◌∷◌}
use Rattle.row_locks.specs.declared.claim.Holder.{Holder}
use Rattle.row_locks.specs.declared.claim.Wait.{Wait}
use Rattle.row_locks.specs.declared.queue.TheConstants.{ROUNDS}
use Rattle.row_locks.specs.Holders.{holds, holds_enough, agrees_with}
use Rattle.row_locks.specs.Queues.{waits, is_open}
use Rattle.row_locks.specs.Rows.{RowLock, may_hold}

-- no transaction stands twice among the holders
abbrev pub are_held_once : List Holder → Bool
are_held_once [] = true
are_held_once (holder ∷ holders) = not (holds holder.tx holders) && are_held_once holders

-- any two holders agree: one holds it exclusive, or all hold it shared
abbrev pub are_agreed : List Holder → Bool
are_agreed [] = true
are_agreed (holder ∷ holders) = agrees_with holder.tx holder.mode holders && are_agreed holders

-- no transaction stands twice in the queue
abbrev pub are_waiting_once : List Wait → Bool
are_waiting_once [] = true
are_waiting_once (wait ∷ queue) = not (waits wait.tx queue) && are_waiting_once queue

-- the first in the queue doesn't agree with all other holders, or its wait is closed: who may hold the lock doesn't
-- wait
abbrev pub is_first_held_up : List Holder → List Wait → Bool
is_first_held_up holders [] = true
is_first_held_up holders (wait ∷ queue) = not (may_hold wait holders)

-- the first in the queue is open
abbrev pub is_first_open : List Wait → Bool
is_first_open [] = true
is_first_open (wait ∷ queue) = is_open wait

-- nobody in the queue holds the lock
abbrev pub none_holds : List Holder → List Wait → Bool
none_holds holders [] = true
none_holds holders (wait ∷ queue) = not (holds wait.tx holders) && none_holds holders queue

-- one of two tests
abbrev pub test_if : Bool → Bool → Bool → Bool
test_if true one other = one
test_if false one other = other

-- those that hold the lock, and wait to be raised, stand before those that don't
abbrev pub are_raises_first : List Holder → List Wait → Bool
are_raises_first holders [] = true
are_raises_first holders (wait ∷ queue) =
    test_if (holds wait.tx holders) (are_raises_first holders queue) (none_holds holders queue)

-- nobody in the queue holds the lock in a mode that is enough for what it waits for
abbrev pub none_has_enough : List Holder → List Wait → Bool
none_has_enough holders [] = true
none_has_enough holders (wait ∷ queue) = not (holds_enough wait.tx wait.mode holders) && none_has_enough holders queue

-- no wait has stood more than eight rounds
abbrev pub are_within_rounds : List Wait → Bool
are_within_rounds [] = true
are_within_rounds (wait ∷ queue) = not (nat_lt ROUNDS wait.rounds) && are_within_rounds queue

-- the lock of a row, as calls leave it
pub record IsOrderly (lock : RowLock) : Type 0 where
  pub held_once : are_held_once lock.holders ≡ true
  pub agreed : are_agreed lock.holders ≡ true
  pub waiting_once : are_waiting_once lock.queue ≡ true
  pub held_up : is_first_held_up lock.holders lock.queue ≡ true
  pub raises_first : are_raises_first lock.holders lock.queue ≡ true
  pub in_need : none_has_enough lock.holders lock.queue ≡ true
  pub within_rounds : are_within_rounds lock.queue ≡ true
