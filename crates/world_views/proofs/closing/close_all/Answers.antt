use Rattle.std.proofs.Common.{ℕ, ◌∙◌, sym}
use Rattle.sig_core.specs.declared.signal.Body.TheVariants as bodies
use Rattle.sig_core.specs.declared.signal.host.HostSignal.TheVariants.{Closed}
use Rattle.sig_core.specs.declared.signal.Signal.{Signal}
use Rattle.world_views.specs.Hosts.{front_of}
use Rattle.world_views.specs.Sending.{headed}
use Rattle.world_views.specs.World.{is_unclosed}
use Rattle.world_views.proofs.CloseLemmas.{is_closed, is_left, is_left_cut, one_closed, one_left}
use Rattle.world_views.proofs.closing.close_all.Goals.{then-to-by+then-not-is_cut+in_ok-first_signal+in_ok-close}
use Rattle.world_views.proofs.closing.close_all.Goals.{else-to-by, else-to-by-via-then-to-by+else-not-is_cut}
use Rattle.world_views.proofs.closing.close_all.Goals.{else-to-by-via-else-to-by}
use Rattle.world_views.proofs.closing.close_all.Goals as goal

pub loop-to-preserved : goal.loop-to-preserved
loop-to-preserved c =
    let to = c.loop-to.to in
    let by = c.args.by.now in
    let standing = c.args.host.now.standing in
    let stays = is_unclosed by.host standing in
    let closing : ℕ → Signal =
    λ j. headed by 0 (record { to = front_of c.args.made.now j; body = bodies.Host (Closed c.args.cause) }) in
    let leaves = one_left to c.args.network.now c.loop-to.network by.host stays closing c.loop-to.invariant.closed in
    record {
      closed = elim c.if-to-by.branch [
        | then-to-by+then-not-is_cut+in_ok-first_signal+in_ok-close w ↦
            w.network-is
            ∙ one_closed to c.args.network.now c.loop-to.network by.host stays closing c.loop-to.invariant.closed
            w.close.new.self w.in_ok-first_signal.field-0
            (is_closed by.host standing to w.if-to-by.true (sym w.is_cut.ensures ∙ w.if-not-is_cut.true))
            w.in_ok-first_signal.ensures w.in_ok-close.ensures
        | else-to-by w ↦ w.network-is ∙ leaves (elim w.else-to-by.branch [
          | else-to-by-via-then-to-by+else-not-is_cut v ↦
              is_left_cut by.host standing to (sym v.is_cut.ensures ∙ v.if-not-is_cut.false)
          | else-to-by-via-else-to-by v ↦ is_left by.host standing to v.if-to-by.false
        ])
      ];
    }
