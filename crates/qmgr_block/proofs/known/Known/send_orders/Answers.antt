use Rattle.std.proofs.Common.{◌≡◌}
use Rattle.sig_core.specs.Place.{membership}
use Rattle.sig_core.specs.Portion.{all_offered, offered_from, so_far}
use Rattle.sig_core.specs.declared.signal.host.Work.TheVariants.{Members}
use Rattle.sig_core.proofs.PortionLemmas.{ends_with_portion, goes_on_after_portion}
use Rattle.qmgr_block.specs.Install.{orders}
use Rattle.qmgr_block.proofs.known.Known.send_orders.Goals as goal

-- more orders are left
pub returns-then-portion : goal.returns-then-portion
returns-then-portion c =
    let xs = orders c.args.self.now in
    let by = membership c.args.self.now.me.node in
    let out = c.args.out.now in
    let portion = c.offer_orders.new.portion in
    let sent = c.offer_orders.new.out in
    let is : so_far portion sent ≡ all_offered (offered_from c.args.at out) xs = cc in
    let done = goes_on_after_portion by Members c.args.at out sent portion xs is c.if-portion.true in
    cc done

-- none is left
pub returns-else-portion : goal.returns-else-portion
returns-else-portion c =
    let xs = orders c.args.self.now in
    let by = membership c.args.self.now.me.node in
    let out = c.args.out.now in
    let portion = c.offer_orders.new.portion in
    let sent = c.offer_orders.new.out in
    let is : so_far portion sent ≡ all_offered (offered_from c.args.at out) xs = cc in
    ends_with_portion by Members c.args.at out sent portion xs is c.if-portion.false
