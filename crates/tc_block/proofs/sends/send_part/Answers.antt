use Rattle.std.proofs.Common.{◌≡◌}
use Rattle.sig_core.specs.Portion.{all_offered, offered_from, so_far}
use Rattle.sig_core.specs.declared.signal.host.Work.TheVariants.{Transaction}
use Rattle.sig_core.specs.Place.{coordinator}
use Rattle.tc_block.specs.Part.{part_effects}
use Rattle.tc_block.specs.Sends.{phase_sends}
use Rattle.sig_core.proofs.PortionLemmas.{ends_with_portion, goes_on_after_portion}
use Rattle.tc_block.proofs.sends.send_part.Goals as goal

pub returns-then-portion : goal.returns-then-portion
unfolding part_effects
returns-then-portion c =
    let xs = phase_sends c.args.layout.now c.args.tx c.args.phase c.args.touched.now in
    let is : so_far c.offer_all.new.portion c.offer_all.new.out
    ≡ all_offered (offered_from c.args.at c.args.out.now) xs = cc in
    let done = goes_on_after_portion (coordinator c.args.node) (Transaction c.args.tx) c.args.at c.args.out.now
    c.offer_all.new.out c.offer_all.new.portion xs is c.if-portion.true in
    cc done

pub returns-else-portion : goal.returns-else-portion
unfolding part_effects
returns-else-portion c =
    let xs = phase_sends c.args.layout.now c.args.tx c.args.phase c.args.touched.now in
    let is : so_far c.offer_all.new.portion c.offer_all.new.out
    ≡ all_offered (offered_from c.args.at c.args.out.now) xs = cc in
    ends_with_portion (coordinator c.args.node) (Transaction c.args.tx) c.args.at c.args.out.now c.offer_all.new.out
    c.offer_all.new.portion xs is c.if-portion.false
