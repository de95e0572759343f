use Rattle.std.proofs.Common.{◌≡◌, ◌≤◌, ◌+◌, ◌-◌, length}
use Rattle.sig_core.specs.Portion.{all_offered, so_far}
use Rattle.copy_block.specs.Sends.{requests_from}
use Rattle.copy_block.proofs.sends.offer_requests.Given as goal

-- what is left leads to the same as all did
abbrev pub invariant-loop-fragment : goal.invariant-loop-fragment
invariant-loop-fragment l = record {
  left : all_offered (so_far l.portion l.out)
      (requests_from l.layout l.joiner l.fragment (l.layout.shape.fragments - l.fragment))
      ≡ all_offered (so_far l.initial.portion l.initial.out)
      (requests_from l.layout l.joiner 0 l.layout.shape.fragments);
  fits : length l.out.sends + l.portion.room ≤ 15;
}
