use Rattle.std.proofs.Common.{◌≡◌, ◌≤◌, ◌+◌, ◌-◌, length}
use Rattle.copy_block.specs.Sends.{requests_from}
use Rattle.copy_block.proofs.sends.count_requests.Given as goal

-- those so far and those that are left are all
abbrev pub invariant-loop-fragment : goal.invariant-loop-fragment
invariant-loop-fragment l = record {
  left : l.count + length (requests_from l.layout l.joiner l.fragment (l.layout.shape.fragments - l.fragment))
      ≡ length (requests_from l.layout l.joiner 0 l.layout.shape.fragments);
  few : l.count ≤ l.fragment;
}
