use Rattle.std.proofs.Common.{rules, ◌∙◌}
use Rattle.sig_core.specs.Members.{nobody}
use Rattle.sig_core.specs.Portion.{so_far}
use Rattle.sig_core.proofs.PortionLemmas.{map_offer_more}
use Rattle.gcp_master.specs.Sends.{order_at}
use Rattle.gcp_master.proofs.sends.offer_orders.Goals as goal

pub loop-member-preserved : goal.loop-member-preserved
loop-member-preserved c = record {
  left =
      map_offer_more (order_at c.args.block c.args.order) c.args.members.now c.loop-member.member-index nobody
      (so_far c.loop-member.portion c.loop-member.out) (so_far c.offer.new.self c.offer.new.out)
      (search rules) (search rules)
      ∙ c.loop-member.invariant.left;
  fits = search rules;
}
