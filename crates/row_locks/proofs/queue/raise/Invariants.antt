use Rattle.std.proofs.Common.{◌≡◌, ◌++◌, length, take, drop}
use Rattle.row_locks.specs.Queues.{raised}
use Rattle.row_locks.proofs.queue.raise.Given as goal

-- what was passed, and what is left after its change, are the whole after its change
abbrev pub invariant-loop-wait : goal.invariant-loop-wait
invariant-loop-wait l = record {
  whole : take l.wait-index l.wait-items ++ raised l.tx l.mode (drop l.wait-index l.wait-items)
      ≡ raised l.tx l.mode l.initial.wait-items;
  len : length l.wait-items ≡ length l.initial.wait-items;
}
