use Rattle.std.proofs.Common.{◌≡◌, ◌≤◌, ◌+◌, ◌++◌, length, drop}
use Rattle.tc_block.specs.Sends.{aborts_of}
use Rattle.tc_block.proofs.sends.send_aborts.Given as goal

-- what was sent and what is left are all that is to be sent
abbrev pub invariant-loop-replica : goal.invariant-loop-replica
invariant-loop-replica l = record {
  left : l.out.sends ++ aborts_of l.tx l.key (drop l.replica-index l.replica-items)
      ≡ l.initial.out.sends ++ aborts_of l.tx l.key l.replica-items;
  marks : l.out.marks ≡ l.initial.out.marks;
  few : length l.out.sends ≤ length l.initial.out.sends + l.replica-index;
}
