use Rattle.std.proofs.Common.{◌++◌, ap, ◌∙◌, slice_set}
use Rattle.sig_core.specs.Step.{Step, stay}
use Rattle.node_views.specs.declared.host_body.HostBody.{HostBody}
use Rattle.world_core.specs.Right.{arriving}
use Rattle.world_views.specs.Machine.{replies_at, told}
use Rattle.world_views.specs.World.{Whole, body_at, sending}
use Rattle.world_views.specs.WorldOf.{whole_of}
use Rattle.world_views.proofs.HandleLemmas.{body_read, enters_ok, has_told}
use Rattle.world_views.proofs.world.World.enter.Goals as goal

pub returns-clause-ok : goal.returns-clause-ok
returns-clause-ok c =
    let w = whole_of c.args.self.now in
    let h = c.args.host in
    let x = arriving h c.args.taken in
    let t : Step HostBody = record { state = body_at w.bodies h; effects = c.args.self.now.outs } in
    let read = body_read w.bodies h c.index_mut.result.now c.requires.there.bodies c.index_mut.ensures.value in
    let host = c.in_ok-tell.ensures.host ∙ ap (λ (s : HostBody). told h (stay s)) read in
    let replies = c.in_ok-tell.ensures.told ∙ ap (λ (s : HostBody). w.replies ++ replies_at h (stay s)) read in
    let telling = has_told w x t c.tell.new.host c.tell.new.replies.items host replies in
    let spoken : Whole =
    record w { bodies = slice_set w.bodies h c.tell.new.host; replies = c.tell.new.replies.items } in
    let sent = c.in_ok-send.ensures.ok
    ∙ ap (λ os. sending spoken h c.args.stamp os) c.in_ok-marks.ensures.sends
    ∙ ap (λ (a : Whole). sending a h c.args.stamp t.effects.sends) telling in
    enters_ok c.add.result w (whole_of c.send.new.self) (whole_of c.close_for.new.self) x t c.args.stamp c.args.lost
    c.args.cause c.is_some.result c.in_ok-marks.marks c.add.new.self c.requires.stamp
    c.in_ok-marks.ensures.taken c.requires.told c.is_some.ensures sent c.in_ok-close_for.ensures.ok
    c.add.ensures.ok
