use Rattle.std.proofs.Common.{◌≡◌, ◌≤◌, ◌+◌, length, drop}
use Rattle.sig_core.specs.Portion.{all_offered, so_far}
use Rattle.tc_block.specs.Sends.{aborts_of}
use Rattle.tc_block.proofs.sends.offer_aborts.Given as goal

-- what is left leads to the same as all did
abbrev pub invariant-loop-replica : goal.invariant-loop-replica
invariant-loop-replica l = record {
  left : all_offered (so_far l.portion l.out) (aborts_of l.tx l.key (drop l.replica-index l.replica-items))
      ≡ all_offered (so_far l.initial.portion l.initial.out) (aborts_of l.tx l.key l.replica-items);
  fits : length l.out.sends + l.portion.room ≤ 15;
}
