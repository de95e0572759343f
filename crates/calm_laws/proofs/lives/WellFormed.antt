-- What comes to a host of the plain machine is well formed.
use Rattle.std.proofs.Common.{◌≡◌, ◌<◌, ◌≤◌, ℕ, zero, suc, ◌+◌, ◌/◌, Bool, true, false, List, [], ◌∷◌, refl, sym}
use Rattle.std.proofs.Common.{ap, ◌∙◌, subst, arith}
use Rattle.std.specs.Prelude.{◌&&◌}
use Rattle.std.proofs.lemmas.Bool.{and_from, or_left}
use Rattle.run_theory.specs.Lists.{Each}
use Rattle.sig_core.specs.declared.outs.Outgoing.{Outgoing}
use Rattle.sig_core.specs.declared.signal.Signal.{Signal}
use Rattle.sig_core.specs.Members.{nobody}
use Rattle.frag_map.specs.Layout.{first_view}
use Rattle.node_core.specs.Requests.{is_request}
use Rattle.node_views.specs.WellFormed.{is_body_sound, is_sender, is_view, is_well_formed}
use Rattle.world_core.proofs.HostNumbers.{made_at}
use Rattle.world_core.specs.Hosts.{first_membership, first_hosts, member_at, receiver}
use Rattle.world_core.specs.Machine.{IsAsked, all_addressed, asked_rightly, counted, sent_count}
use Rattle.world_core.specs.Machine.{signals_of, step_after}
use Rattle.world_core.specs.Start.{Start, made}
use Rattle.world_core.specs.Steps.{Addressed, HostStep}
use Rattle.run_laws.specs.Transit.{AreInTransit, Comes, IsRun, Takes, logs_of}
use Rattle.run_laws.proofs.routes.Addressed.{comes_below}
use Rattle.run_laws.proofs.routes.Events.{coming_are_routed}
use Rattle.run_laws.proofs.transit.Transit.{along_transit}
use Rattle.run_laws.proofs.transit.Runs.{taking}
use Rattle.run_laws.proofs.transit.Weighing.{each_between, each_taken, joined_each}
use Rattle.calm_laws.specs.Known.{ComingAreWellFormed}
use Rattle.calm_laws.proofs.known.Transactions.{comes_known}
use Rattle.calm_laws.proofs.lives.SoundBodies.{body_sound, first_view_sound, node_sound}

module _ (start : Start) where
  -- the shell, or a member that began the life, says it in the first view
  record IsHeaded (x : Signal) : Type 0 where
    member : is_sender start.shape x.member ≡ true
    view : x.view ≡ first_view start.shape.nodes

  abbrev AreHeaded : List Addressed → Type 0
  AreHeaded xs = Each (λ (x : Addressed). IsHeaded x.signal) xs

  -- who stands at a host is one that may send
  pub sender_sound : (h : ℕ) → h < first_hosts start → is_sender start.shape (member_at (made start) h) ≡ true
  sender_sound zero low = refl
  sender_sound (suc h) low =
      let few : h / 3 + 1 ≤ start.shape.nodes = omega (arith, low) in
      let own = h / 3 + 1 in
      subst (λ m. is_sender start.shape m ≡ true)
      (sym (made_at start (h / 3) nobody (omega (arith, few))))
      (or_left _ _ (node_sound start own (omega arith) few))

  sends_headed : (h stamp : ℕ) (count : ℕ → ℕ) (sends : List Outgoing) → h < first_hosts start
      → AreHeaded (all_addressed (first_membership start) h stamp count sends)
  sends_headed h stamp count [] low = tt
  sends_headed h stamp count (o ∷ more) low = (
    record { member = sender_sound h low; view = refl },
    sends_headed h stamp (counted (receiver (first_membership start) o.to) count) more low,
  )

  -- a request is the shell's
  asked_headed : (h stamp : ℕ) (x : Signal) → IsAsked (first_membership start) h stamp x → IsHeaded x
  asked_headed h stamp x asked = subst IsHeaded (sym asked.is) (record { member = refl; view = refl })

  took_headed : (es : List HostStep) (e : HostStep) (before between : List Addressed) → Comes start es e
      → AreHeaded before → Takes e before between → IsHeaded e.step.taken
  took_headed es e before between comes all takes = by (is_request e.step.taken.body) refl
    where
      by : (b : Bool) → is_request e.step.taken.body ≡ b → IsHeaded e.step.taken
      by true is =
          let stamp = comes.happens.step.fits.asked_at in
          asked_headed e.host stamp e.step.taken
          (subst (λ b. asked_rightly (first_membership start) b e.host stamp e.step.taken) is
          comes.happens.step.fits.asked)
      by false is = each_taken (λ (x : Addressed). IsHeaded x.signal) e before between is takes all

  all_headed : (es : List HostStep) (xs : List Addressed) → IsRun start es → AreInTransit start es xs → AreHeaded xs
  all_headed =
      along_transit start (λ es xs. AreHeaded xs) tt
      (λ es e before between comes transit all takes.
      let log = logs_of start es e.host in
      joined_each (λ (x : Addressed). IsHeaded x.signal) (signals_of start e.host log e) between
      (sends_headed e.host e.step.stamp (sent_count start e.host log) (step_after start e.host log e).effects.sends
      (comes_below start es e comes))
      (each_between (λ (x : Addressed). IsHeaded x.signal) e before between takes all))

  comes_headed : (es : List HostStep) (e : HostStep) → Comes start es e → IsHeaded e.step.taken
  comes_headed es e comes =
      let takes = taking start es e comes in
      took_headed es e takes.before takes.between comes (all_headed es takes.before comes.before takes.transit)
      takes.takes

pub coming_well_formed : ComingAreWellFormed
unfolding is_well_formed
coming_well_formed start es e comes =
    let x = e.step.taken in
    let head = comes_headed start es e comes in
    let view : is_view start.shape x.view ≡ true = ap (is_view start.shape) head.view ∙ first_view_sound start in
    let body : is_body_sound start.shape x.body ≡ true =
    body_sound start comes.before.shape x.to.node x.body (comes_known start es e comes)
    (coming_are_routed start es e comes).routed in
    and_from (is_sender start.shape x.member && is_view start.shape x.view) (is_body_sound start.shape x.body)
    (and_from (is_sender start.shape x.member) (is_view start.shape x.view) head.member view) body
