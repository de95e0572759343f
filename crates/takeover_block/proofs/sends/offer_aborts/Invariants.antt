use Rattle.std.proofs.Common.{◌≡◌, ◌≤◌, ◌+◌, length, drop, map}
use Rattle.sig_core.specs.Portion.{all_offered, so_far}
use Rattle.takeover_block.specs.Sends.{abort_at}
use Rattle.takeover_block.proofs.sends.offer_aborts.Given as goal

-- what is left leads to the same as all did
abbrev pub invariant-loop-replica : goal.invariant-loop-replica
invariant-loop-replica l = record {
  left : all_offered (so_far l.portion l.out) (map (abort_at l.tx l.key) (drop l.replica-index l.replica-items))
      ≡ all_offered (so_far l.initial.portion l.initial.out) (map (abort_at l.tx l.key) l.replica-items);
  fits : length l.out.sends + l.portion.room ≤ 15;
}
