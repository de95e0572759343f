use Rattle.std.proofs.Common.{◌≡◌, drop}
use Rattle.row_locks.specs.Rounds.{first_expired}
use Rattle.row_locks.proofs.queue.first_expired.Given as goal

-- what is left tells the answer
abbrev pub invariant-loop-wait : goal.invariant-loop-wait
invariant-loop-wait l = first_expired (drop l.wait-index l.queue) ≡ first_expired l.queue
