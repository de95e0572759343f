use Rattle.std.proofs.Common.{◌≡◌, ◌≤◌, ◌+◌, length, drop}
use Rattle.std.specs.List.{flat_map}
use Rattle.sig_core.specs.Portion.{all_offered, so_far}
use Rattle.takeover_block.specs.Sends.{key_sends}
use Rattle.takeover_block.proofs.sends.offer_keys.Given as goal

-- what is left leads to the same as all did
abbrev pub invariant-loop-key : goal.invariant-loop-key
invariant-loop-key l = record {
  left : all_offered (so_far l.portion l.out) (flat_map (key_sends l.layout l.tx l.stage) (drop l.key-index l.keys))
      ≡ all_offered (so_far l.initial.portion l.initial.out) (flat_map (key_sends l.layout l.tx l.stage) l.keys);
  fits : length l.out.sends + l.portion.room ≤ 15;
}
