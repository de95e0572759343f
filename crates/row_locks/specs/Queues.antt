-- The queue of a lock, the next to be served first.
use Rattle.std.specs.Prelude.{ℕ, ◌+◌, Bool, true, false, ◌&&◌, ◌||◌, nat_lt, List, [], ◌∷◌, map}
use Rattle.sig_core.specs.declared.member.TxId.{TxId}
use Rattle.row_locks.specs.declared.mode.Mode.{Mode}
use Rattle.row_locks.specs.declared.claim.Wait.{Wait}
use Rattle.row_locks.specs.declared.queue.TheConstants.{ROUNDS}
use Rattle.sig_core.specs.Same.{same_tx}
use Rattle.row_locks.specs.Modes.{stronger}
use Rattle.row_locks.specs.Holders.{unless_gone}

-- a wait that begins
abbrev pub wait_of : TxId → Mode → Wait
wait_of tx mode = record { tx = tx; mode = mode; rounds = 0 }

-- the transaction waits
abbrev pub waits : TxId → List Wait → Bool
waits tx [] = false
waits tx (wait ∷ queue) = same_tx wait.tx tx || waits tx queue

-- the queue without the transaction
abbrev pub without : TxId → List Wait → List Wait
without tx [] = []
without tx (wait ∷ queue) = unless_gone (same_tx wait.tx tx) wait (without tx queue)

-- a wait, in a mode that is enough for another one too where it is to be raised
abbrev pub raised_if : Bool → Mode → Wait → Wait
raised_if true mode wait = record { tx = wait.tx; mode = stronger wait.mode mode; rounds = wait.rounds }
raised_if false mode wait = wait

-- the queue, in which the transaction waits for this mode too, at its old place
abbrev pub raised : TxId → Mode → List Wait → List Wait
raised tx mode queue = map (λ wait. raised_if (same_tx wait.tx tx) mode wait) queue

-- the wait has not stood at eight rounds. One that has is closed: it isn't granted any more, and nor is a wait behind
-- it until it is taken out
abbrev pub is_open : Wait → Bool
is_open wait = nat_lt wait.rounds ROUNDS

-- one round more, up to eight
abbrev pub one_round : Bool → ℕ → ℕ
one_round true rounds = rounds + 1
one_round false rounds = rounds

-- the wait ages: it isn't of the copying of rows, which has coordinator 0, and has not come to eight rounds
abbrev pub ages : Wait → Bool
ages wait = nat_lt 0 wait.tx.tc && is_open wait

-- the wait, one round later
abbrev pub aged : Wait → Wait
aged wait = record { tx = wait.tx; mode = wait.mode; rounds = one_round (ages wait) wait.rounds }

-- the queue, one round later
abbrev pub aged_all : List Wait → List Wait
aged_all queue = map aged queue
