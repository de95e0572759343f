use Rattle.std.proofs.Common.{◌≡◌, ◌++◌, length, take, drop}
use Rattle.row_locks.specs.Queues.{aged_all}
use Rattle.row_locks.proofs.queue.age_all.Given as goal

-- what was passed, and what is left after its change, are the whole after its change
abbrev pub invariant-loop-wait : goal.invariant-loop-wait
invariant-loop-wait l = record {
  whole : take l.wait-index l.wait-items ++ aged_all (drop l.wait-index l.wait-items) ≡ aged_all l.initial.wait-items;
  len : length l.wait-items ≡ length l.initial.wait-items;
}
