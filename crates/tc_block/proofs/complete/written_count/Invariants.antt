use Rattle.std.proofs.Common.{◌≡◌, ◌≤◌, ◌+◌, drop}
use Rattle.tc_block.specs.Complete.{written_count}
use Rattle.tc_block.proofs.complete.written_count.Given as goal

-- those so far and those that are left are all
abbrev pub invariant-loop-t : goal.invariant-loop-t
invariant-loop-t l = record {
  left : l.count + written_count (drop l.t-index l.touched) ≡ written_count l.touched;
  few : l.count ≤ l.t-index;
}
