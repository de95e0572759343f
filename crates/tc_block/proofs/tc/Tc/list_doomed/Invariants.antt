use Rattle.std.proofs.Common.{◌≡◌, ◌≤◌, ◌+◌, ◌++◌, length}
use Rattle.std.specs.List.{flat_map}
use Rattle.std.specs.Vec.{vec_capacity}
use Rattle.tc_block.specs.Doom.{doomed_of}
use Rattle.tc_block.proofs.tc.Tc.list_doomed.Given as goal

-- those so far, and those of the transactions that are left, are all
abbrev pub invariant-loop-tx : goal.invariant-loop-tx
invariant-loop-tx l = record {
  left : l.doomed.items ++ flat_map (doomed_of l.view l.before) l.tx-iterator
      ≡ flat_map (doomed_of l.view l.before) l.self.live;
  few : length l.doomed.items + length l.tx-iterator ≤ length l.self.live;
  capacity : vec_capacity l.doomed ≡ vec_capacity l.fn.doomed;
}
