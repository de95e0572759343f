use Rattle.std.proofs.Common.{◌≡◌, ◌≤◌, ◌+◌, ◌*◌, drop}
use Rattle.tc_block.specs.Abort.{replica_count}
use Rattle.tc_block.proofs.abort.replica_count.Given as goal

-- those so far and those that are left are all
abbrev pub invariant-loop-t : goal.invariant-loop-t
invariant-loop-t l = record {
  left : l.count + replica_count l.layout (drop l.t-index l.touched) ≡ replica_count l.layout l.touched;
  few : l.count ≤ 8 * l.t-index;
}
