use Rattle.std.proofs.Common.{◌≡◌, ◌≤◌, ◌+◌, ◌++◌, length}
use Rattle.std.specs.List.{flat_map}
use Rattle.std.specs.Vec.{vec_capacity}
use Rattle.tc_block.specs.Resume.{task_of}
use Rattle.tc_block.proofs.tc.Tc.list_tasks.Given as goal

-- those so far, and those of the transactions that are left, are all
abbrev pub invariant-loop-tx : goal.invariant-loop-tx
invariant-loop-tx l = record {
  left : l.tasks.items ++ flat_map (task_of l.doomed) l.tx-iterator ≡ flat_map (task_of l.doomed) l.self.live;
  few : length l.tasks.items + length l.tx-iterator ≤ length l.self.live;
  capacity : vec_capacity l.tasks ≡ vec_capacity l.fn.tasks;
}
