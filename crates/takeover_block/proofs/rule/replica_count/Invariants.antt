use Rattle.std.proofs.Common.{◌≡◌, ◌≤◌, ◌+◌, ◌*◌, drop}
use Rattle.takeover_block.specs.Rule.{replica_count}
use Rattle.takeover_block.proofs.rule.replica_count.Given as goal

-- those so far and those that are left are all
abbrev pub invariant-loop-key : goal.invariant-loop-key
invariant-loop-key l = record {
  left : l.count + replica_count l.layout (drop l.key-index l.keys) ≡ replica_count l.layout l.keys;
  few : l.count ≤ 8 * l.key-index;
}
