use Rattle.std.proofs.Common.{◌≡◌, drop}
use Rattle.row_locks.specs.Queues.{waits}
use Rattle.row_locks.proofs.queue.waits.Given as goal

-- what is left tells the answer
abbrev pub invariant-loop-wait : goal.invariant-loop-wait
invariant-loop-wait l = waits l.tx (drop l.wait-index l.queue) ≡ waits l.tx l.queue
