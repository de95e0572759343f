use Rattle.std.proofs.Common.{◌≡◌}
use Rattle.sig_core.specs.Portion.{all_offered, offered_from, so_far}
use Rattle.sig_core.specs.declared.signal.host.Work.TheVariants.{Members}
use Rattle.sig_core.specs.Place.{copying}
use Rattle.copy_block.specs.Sends.{request_effects, requests_left, request_sends}
use Rattle.sig_core.proofs.PortionLemmas.{ends_with_portion, goes_on_after_portion, left_is}
use Rattle.copy_block.proofs.sends.send_requests.Goals as goal

pub returns-then-portion-clause-effects : goal.returns-then-portion-clause-effects
unfolding request_effects
returns-then-portion-clause-effects c =
    let xs = request_sends c.args.layout.now c.args.joiner.now in
    let is : so_far c.offer_requests.new.portion c.offer_requests.new.out
    ≡ all_offered (offered_from c.args.at c.args.out.now) xs = cc in
    let done = goes_on_after_portion (copying c.args.node) Members c.args.at c.args.out.now
    c.offer_requests.new.out c.offer_requests.new.portion xs is c.if-portion.true in
    cc done

pub returns-then-portion-clause-left : goal.returns-then-portion-clause-left
unfolding requests_left
returns-then-portion-clause-left c =
    let xs = request_sends c.args.layout.now c.args.joiner.now in
    let is : so_far c.offer_requests.new.portion c.offer_requests.new.out
    ≡ all_offered (offered_from c.args.at c.args.out.now) xs = cc in
    left_is c.args.at c.args.out.now c.offer_requests.new.out c.offer_requests.new.portion xs is c.if-portion.true

pub returns-else-portion-clause-effects : goal.returns-else-portion-clause-effects
unfolding request_effects
returns-else-portion-clause-effects c =
    let xs = request_sends c.args.layout.now c.args.joiner.now in
    let is : so_far c.offer_requests.new.portion c.offer_requests.new.out
    ≡ all_offered (offered_from c.args.at c.args.out.now) xs = cc in
    let done = ends_with_portion (copying c.args.node) Members c.args.at c.args.out.now
    c.offer_requests.new.out c.offer_requests.new.portion xs is c.if-portion.false in
    cc done

pub returns-else-portion-clause-left : goal.returns-else-portion-clause-left
unfolding requests_left
returns-else-portion-clause-left c =
    let xs = request_sends c.args.layout.now c.args.joiner.now in
    let is : so_far c.offer_requests.new.portion c.offer_requests.new.out
    ≡ all_offered (offered_from c.args.at c.args.out.now) xs = cc in
    left_is c.args.at c.args.out.now c.offer_requests.new.out c.offer_requests.new.portion xs is c.if-portion.false
