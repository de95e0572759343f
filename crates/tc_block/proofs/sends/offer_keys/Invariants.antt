use Rattle.std.proofs.Common.{◌≡◌, ◌≤◌, ◌+◌, length, drop}
use Rattle.std.specs.List.{flat_map}
use Rattle.sig_core.specs.Portion.{all_offered, so_far}
use Rattle.tc_block.specs.Sends.{key_sends}
use Rattle.tc_block.proofs.sends.offer_keys.Given as goal

-- what is left leads to the same as all did
abbrev pub invariant-loop-t : goal.invariant-loop-t
invariant-loop-t l = record {
  left : all_offered (so_far l.portion l.out) (flat_map (key_sends l.layout l.tx l.phase) (drop l.t-index l.touched))
      ≡ all_offered (so_far l.initial.portion l.initial.out) (flat_map (key_sends l.layout l.tx l.phase) l.touched);
  fits : length l.out.sends + l.portion.room ≤ 15;
}
