use Rattle.std.proofs.Common.{◌≡◌, ◌≤◌, ◌+◌, length, drop}
use Rattle.sig_core.specs.Portion.{all_offered, so_far}
use Rattle.gcp_master.specs.Sends.{orders_at}
use Rattle.gcp_master.proofs.sends.offer_orders.Given as goal

-- what is left leads to the same as all did
abbrev pub invariant-loop-member : goal.invariant-loop-member
invariant-loop-member l = record {
  left : all_offered (so_far l.portion l.out) (orders_at l.block l.order (drop l.member-index l.members))
      ≡ all_offered (so_far l.initial.portion l.initial.out) (orders_at l.block l.order l.members);
  fits : length l.out.sends + l.portion.room ≤ 15;
}
