use Rattle.std.proofs.Common.{◌≡◌, rules, true, false, ap, sym, ◌∙◌, subst, nat_lt}
use Rattle.std.specs.Prelude.{OnOk, Option}
use Rattle.sig_core.specs.declared.outcome.StopCause.{StopCause}
use Rattle.node_views.specs.declared.host_body.HostBody.{HostBody}
use Rattle.node_views.specs.Row.{entered, entering_stop, headed_stop, headed_stop_if, is_excluded, passed_stop}
use Rattle.node_views.proofs.host_body.HostBody.head.Goals as goal
use Rattle.node_views.proofs.host_body.HostBody.head.Goals.{else-get-via-else-get}
use Rattle.node_views.proofs.host_body.HostBody.head.Goals.{else-get-via-then-get+in_ok-enter_first+else-not-branch}

-- a host that goes on stops for what it does at the signal in the view that it has entered
pub returns-clause-stops : goal.returns-clause-stops
unfolding headed_stop
returns-clause-stops c =
    let s = c.args.self.now in
    let x = c.args.signal.now in
    let as_headed : passed_stop c.else-get.self x ≡ headed_stop s x =
    elim c.else-get.branch [
      | else-get-via-then-get+in_ok-enter_first+else-not-branch w ↦
          let newer : nat_lt s.standing.view.number x.view.number ≡ true = search rules in
          let stays : is_excluded s.standing x.view ≡ false = search rules in
          let now : c.else-get.self ≡ (entered s x.view).state = search rules in
          ap (λ (t : HostBody). passed_stop t x) now
          ∙ sym (ap (λ b. headed_stop_if s x b) newer ∙ ap (λ b. entering_stop s x b) stays)
      | else-get-via-else-get w ↦
          let older : nat_lt s.standing.view.number x.view.number ≡ false = search rules in
          ap (λ (t : HostBody). passed_stop t x) w.self-is ∙ sym (ap (λ b. headed_stop_if s x b) older)
    ] in
    subst (λ (o : Option StopCause). OnOk c.pass.result (c.pass.new.stops ≡ o)) as_headed c.pass.ensures.stops
