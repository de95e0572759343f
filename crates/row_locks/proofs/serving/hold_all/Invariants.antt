use Rattle.std.proofs.Common.{◌≡◌, ◌+◌, ◌++◌, length, map, drop}
use Rattle.std.specs.Vec.{vec_capacity}
use Rattle.row_locks.specs.Serving.{granted_to}
use Rattle.row_locks.proofs.serving.hold_all.Given as goal

-- the holders, and behind them those that are left, are all in the end
abbrev pub invariant-loop-wait : goal.invariant-loop-wait
invariant-loop-wait l = record {
  all : l.holders.items ++ map granted_to (drop l.wait-index l.waits) ≡ l.fn.holders.items ++ map granted_to l.waits;
  count : length l.holders.items ≡ length l.fn.holders.items + l.wait-index;
  capacity : vec_capacity l.holders ≡ vec_capacity l.fn.holders;
}
