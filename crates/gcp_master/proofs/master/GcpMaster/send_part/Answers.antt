use Rattle.std.proofs.Common.{◌≡◌, ◌+◌, ◌∙◌, ap}
use Rattle.sig_core.specs.declared.place.Place.{Place}
use Rattle.sig_core.specs.declared.portion.Portion.{Portion}
use Rattle.sig_core.specs.declared.signal.host.Work.TheVariants.{Members}
use Rattle.sig_core.specs.Place.{checkpoints}
use Rattle.sig_core.specs.Portion.{Offered, all_offered, go_on_at, offered_from, so_far}
use Rattle.sig_core.specs.Step.{and_send}
use Rattle.sig_core.proofs.PortionLemmas.{ends_with_portion, goes_on_after_portion, portion_sent}
use Rattle.gcp_master.specs.Sends.{list_effects, master_sends}
use Rattle.gcp_master.specs.State.{MasterState}
use Rattle.gcp_master.proofs.master.GcpMaster.send_part.Goals as goal

pub returns-then-portion : goal.returns-then-portion
unfolding list_effects
returns-then-portion c =
    let s = c.args.self.now in
    let xs = master_sends s in
    let by = checkpoints s.member.node in
    let out = c.offer_list.new.out in
    let is : so_far c.offer_list.new.portion out ≡ all_offered (offered_from c.args.at c.args.out.now) xs =
    c.offer_list.ensures.offered
    ∙ ap (λ (p : Portion). all_offered (so_far p c.args.out.now) xs) c.new-portion.ensures in
    let to : c.checkpoints.result ≡ by =
    c.checkpoints.ensures ∙ ap (λ (s : MasterState). checkpoints s.member.node) c.self.view_is in
    let portion = c.offer_list.new.portion in
    let done = goes_on_after_portion by Members c.args.at c.args.out.now out portion xs is c.if-portion.true in
    record {
      effects =
          c.send.ensures ∙ ap (λ (p : Place). and_send out p (go_on_at by Members (c.args.at + 8)).body) to ∙ done;
      left = ap (λ (o : Offered). o.portion.more) is ∙ (portion_sent c.args.at c.args.out.now xs).more;
    }

pub returns-else-portion : goal.returns-else-portion
unfolding list_effects
returns-else-portion c =
    let s = c.args.self.now in
    let xs = master_sends s in
    let out = c.offer_list.new.out in
    let is : so_far c.offer_list.new.portion out ≡ all_offered (offered_from c.args.at c.args.out.now) xs =
    c.offer_list.ensures.offered
    ∙ ap (λ (p : Portion). all_offered (so_far p c.args.out.now) xs) c.new-portion.ensures in
    record {
      effects =
          ends_with_portion (checkpoints s.member.node) Members c.args.at c.args.out.now out
          c.offer_list.new.portion xs is c.if-portion.false;
      left = ap (λ (o : Offered). o.portion.more) is ∙ (portion_sent c.args.at c.args.out.now xs).more;
    }
