use Rattle.std.proofs.Common.{◌≡◌}
use Rattle.sig_core.specs.Portion.{all_offered, offered_from, so_far}
use Rattle.sig_core.specs.declared.signal.host.Work.TheVariants.{Members}
use Rattle.sig_core.specs.Place.{takeover}
use Rattle.takeover_block.specs.Sends.{ask_effects, ask_left, asks_of}
use Rattle.sig_core.proofs.PortionLemmas.{ends_with_portion, goes_on_after_portion, left_is}
use Rattle.takeover_block.proofs.sends.send_asks.Goals as goal

pub returns-then-portion-clause-effects : goal.returns-then-portion-clause-effects
unfolding ask_effects
returns-then-portion-clause-effects c =
    let xs = asks_of c.args.view.now in
    let is : so_far c.offer_asks.new.portion c.offer_asks.new.out
    ≡ all_offered (offered_from c.args.at c.args.out.now) xs = cc in
    let done = goes_on_after_portion (takeover c.args.node) Members c.args.at c.args.out.now
    c.offer_asks.new.out c.offer_asks.new.portion xs is c.if-portion.true in
    cc done

pub returns-then-portion-clause-left : goal.returns-then-portion-clause-left
unfolding ask_left
returns-then-portion-clause-left c =
    let xs = asks_of c.args.view.now in
    let is : so_far c.offer_asks.new.portion c.offer_asks.new.out
    ≡ all_offered (offered_from c.args.at c.args.out.now) xs = cc in
    left_is c.args.at c.args.out.now c.offer_asks.new.out c.offer_asks.new.portion xs is c.if-portion.true

pub returns-else-portion-clause-effects : goal.returns-else-portion-clause-effects
unfolding ask_effects
returns-else-portion-clause-effects c =
    let xs = asks_of c.args.view.now in
    let is : so_far c.offer_asks.new.portion c.offer_asks.new.out
    ≡ all_offered (offered_from c.args.at c.args.out.now) xs = cc in
    let done = ends_with_portion (takeover c.args.node) Members c.args.at c.args.out.now
    c.offer_asks.new.out c.offer_asks.new.portion xs is c.if-portion.false in
    cc done

pub returns-else-portion-clause-left : goal.returns-else-portion-clause-left
unfolding ask_left
returns-else-portion-clause-left c =
    let xs = asks_of c.args.view.now in
    let is : so_far c.offer_asks.new.portion c.offer_asks.new.out
    ≡ all_offered (offered_from c.args.at c.args.out.now) xs = cc in
    left_is c.args.at c.args.out.now c.offer_asks.new.out c.offer_asks.new.portion xs is c.if-portion.false
