use Rattle.std.proofs.Common.{◌≡◌, ◌≤◌, ◌+◌, length, drop, map}
use Rattle.sig_core.specs.Portion.{all_offered, so_far}
use Rattle.takeover_block.specs.Sends.{ask_of}
use Rattle.takeover_block.proofs.sends.offer_asks_to.Given as goal

-- what is left leads to the same as all did
abbrev pub invariant-loop-member : goal.invariant-loop-member
invariant-loop-member l = record {
  left : all_offered (so_far l.portion l.out) (map ask_of (drop l.member-index l.members))
      ≡ all_offered (so_far l.initial.portion l.initial.out) (map ask_of l.members);
  fits : length l.out.sends + l.portion.room ≤ 15;
}
