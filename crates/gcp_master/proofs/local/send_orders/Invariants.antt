use Rattle.std.proofs.Common.{◌≡◌, ◌≤◌, ◌+◌, ◌++◌, length, drop}
use Rattle.sig_core.specs.declared.place.BlockId.TheVariants.{Lqh}
use Rattle.gcp_master.specs.Sends.{orders_at}
use Rattle.gcp_master.proofs.local.send_orders.Given as goal

-- what was sent and what is left are all that is to be sent
abbrev pub invariant-loop-member : goal.invariant-loop-member
invariant-loop-member l = record {
  left : l.out.sends ++ orders_at Lqh l.order (drop l.member-index l.members)
      ≡ l.initial.out.sends ++ orders_at Lqh l.order l.members;
  marks : l.out.marks ≡ l.initial.out.marks;
  few : length l.out.sends ≤ length l.initial.out.sends + l.member-index;
}
