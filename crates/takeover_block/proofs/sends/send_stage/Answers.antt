use Rattle.std.proofs.Common.{◌≡◌}
use Rattle.sig_core.specs.Portion.{all_offered, offered_from, so_far}
use Rattle.sig_core.specs.declared.signal.host.Work.TheVariants.{Transaction}
use Rattle.sig_core.specs.Place.{takeover}
use Rattle.takeover_block.specs.Sends.{stage_effects, stage_left, stage_sends}
use Rattle.sig_core.proofs.PortionLemmas.{ends_with_portion, goes_on_after_portion, left_is}
use Rattle.takeover_block.proofs.sends.send_stage.Goals as goal

pub returns-then-portion-clause-effects : goal.returns-then-portion-clause-effects
unfolding stage_effects
returns-then-portion-clause-effects c =
    let xs = stage_sends c.args.layout.now c.args.stage c.args.g.now in
    let is : so_far c.offer_stage.new.portion c.offer_stage.new.out
    ≡ all_offered (offered_from c.args.at c.args.out.now) xs = cc in
    let done = goes_on_after_portion (takeover c.args.node) (Transaction c.args.g.now.tx) c.args.at c.args.out.now
    c.offer_stage.new.out c.offer_stage.new.portion xs is c.if-portion.true in
    cc done

pub returns-then-portion-clause-left : goal.returns-then-portion-clause-left
unfolding stage_left
returns-then-portion-clause-left c =
    let xs = stage_sends c.args.layout.now c.args.stage c.args.g.now in
    let is : so_far c.offer_stage.new.portion c.offer_stage.new.out
    ≡ all_offered (offered_from c.args.at c.args.out.now) xs = cc in
    left_is c.args.at c.args.out.now c.offer_stage.new.out c.offer_stage.new.portion xs is c.if-portion.true

pub returns-else-portion-clause-effects : goal.returns-else-portion-clause-effects
unfolding stage_effects
returns-else-portion-clause-effects c =
    let xs = stage_sends c.args.layout.now c.args.stage c.args.g.now in
    let is : so_far c.offer_stage.new.portion c.offer_stage.new.out
    ≡ all_offered (offered_from c.args.at c.args.out.now) xs = cc in
    let done = ends_with_portion (takeover c.args.node) (Transaction c.args.g.now.tx) c.args.at c.args.out.now
    c.offer_stage.new.out c.offer_stage.new.portion xs is c.if-portion.false in
    cc done

pub returns-else-portion-clause-left : goal.returns-else-portion-clause-left
unfolding stage_left
returns-else-portion-clause-left c =
    let xs = stage_sends c.args.layout.now c.args.stage c.args.g.now in
    let is : so_far c.offer_stage.new.portion c.offer_stage.new.out
    ≡ all_offered (offered_from c.args.at c.args.out.now) xs = cc in
    left_is c.args.at c.args.out.now c.offer_stage.new.out c.offer_stage.new.portion xs is c.if-portion.false
