-- Signals at an event: what was sent before has no greater view than the current one, what is sent has that of its
-- host, and what is told of each that was sent is told of the one that the event takes.
use Rattle.std.proofs.Common.{◌≡◌, ◌≤◌, ◌<◌, ◌⊎◌, ◌||◌, ℕ, Bool, true, false, filter, List, [], ◌∷◌, refl, sym, ap}
use Rattle.std.proofs.Common.{subst, ◌∙◌, inl, inr, arith}
use Rattle.std.proofs.lemmas.Bool.{cases_lt}
use Rattle.std.specs.Prelude.{not}
use Rattle.run_theory.proofs.Links.{put_each, sent_by_each}
use Rattle.run_theory.proofs.Pasts.{each_filter, each_map, each_past}
use Rattle.run_theory.specs.Links.{IsGiven, sent, sent_by}
use Rattle.run_theory.specs.Lists.{Each}
use Rattle.run_theory.specs.Machine.{Machine}
use Rattle.run_theory.specs.Runs.{Happens}
use Rattle.run_theory.proofs.EventCases.{event_each}
use Rattle.sig_core.specs.declared.outcome.StopCause.{StopCause}
use Rattle.sig_core.specs.declared.signal.Body.{Body}
use Rattle.sig_core.specs.declared.signal.Body.TheVariants.{Epoch, Host}
use Rattle.sig_core.specs.declared.signal.Signal.{Signal}
use Rattle.sig_core.specs.declared.signal.epoch.EpochSignal.{EpochSignal}
use Rattle.sig_core.specs.declared.signal.host.HostSignal.TheVariants.{Closed}
use Rattle.sig_core.specs.declared.view.View.{View}
use Rattle.node_views.specs.WellFormed.{is_well_formed}
use Rattle.world_core.specs.Hosts.{hosts}
use Rattle.world_core.specs.Start.{NobodyStarts, Start}
use Rattle.world_core.specs.Steps.{Addressed, HostStep}
use Rattle.world_views.specs.Machine.{IsOwn, IsOwnWork, cause_in, comes_rightly, signals_of, stops_by}
use Rattle.world_views.specs.Sending.{is_asked}
use Rattle.view_laws.specs.Order.{is_sound, sound_machine}
use Rattle.view_laws.specs.Runs.{view_after}
use Rattle.view_laws.proofs.eras.Rises.{view_rises}
use Rattle.view_laws.proofs.follow.Senders.{each_from}
use Rattle.moment_laws.specs.Moments.{IsMoment, logs_of}
use Rattle.moment_laws.proofs.MomentViews.{current_above, current_number, moment_within}

-- the body closes a link
pub record IsClosed (body : Body) : Type 0 where
  pub cause : StopCause
  pub is : body ≡ Host (Closed cause)

-- where one test fails and the other holds
pub neither : (a b : Bool) → a ≡ false → b ≡ true → (a || not b) ≡ false
neither true b e f = e
neither false true e f = refl
neither false false e f = sym f

module _ (start : Start) where
  abbrev pub n : Machine HostStep Addressed
  n = sound_machine start

  -- a host has sent nothing of a greater view than its own
  pub sent_low : NobodyStarts start → (i j : ℕ) (log : List HostStep)
      → Each (λ (x : Addressed). x.signal.view.number ≤ (view_after start i log).number) (sent n i j log)
  sent_low nobody i j [] = tt
  sent_low nobody i j (e ∷ log) =
      put_each n IsLow j (sent_by n i log e) (sent n i j log) (sent_by_each n IsLow i log e (λ goes. new))
      (each_map _ IsLow (sent n i j log) old (sent_low nobody i j log))
    where
      IsLow : Addressed → Type 0
      IsLow = λ x. x.signal.view.number ≤ (view_after start i (e ∷ log)).number

      new : Each IsLow (filter (is_sound start) (signals_of start i log e))
      new =
          each_filter IsLow (is_sound start) (signals_of start i log e)
          (each_map _ IsLow (signals_of start i log e)
          (λ x one.
          let same : x.signal.view.number ≡ (view_after start i (e ∷ log)).number =
          ap (λ (v : View). v.number) one.view_is in
          omega (arith, same))
          (each_from start i log e))

      old : (x : Addressed) → x.signal.view.number ≤ (view_after start i log).number → IsLow x
      old x low = let rises = view_rises start nobody i log e in omega (arith, low, rises)

  -- what is told of all that was sent is told of what a link gives, but for closings
  module _ (K : Addressed → Type 0) where
    abbrev pub EachSent : (ℕ → List HostStep) → Type 0
    EachSent logs = (i j : ℕ) → Each K (sent n i j (logs i))

    given_told : (i j : ℕ) (log : List HostStep) (x : Addressed) (xs : List Addressed) → Each K (sent n i j log)
        → IsGiven n i j log (x ∷ xs) → K x ⊎ IsClosed x.signal.body
    given_told i j log x xs all (inl past) = let told : Each K (x ∷ xs) = each_past K past all in inl told.0
    given_told i j [] x xs all (inr closing) = absurd closing
    given_told i j (e ∷ log) x xs all (inr closing) =
        let same : n.closing i log e j ≡ x = cc (closing.is) in
        inr (record { cause = cause_in e.step.marks; is = sym (ap (λ (y : Addressed). y.signal.body) same) })

    module _ (all : ℕ → List HostStep) (e : HostStep) (es : List HostStep) (moment : IsMoment start all (e ∷ es)) where
      abbrev x : Signal
      x = e.step.taken

      -- so it is of the signal of an event that is well formed, and isn't asked of oneself
      link_told : EachSent (logs_of start es) → n.asked e ≡ false → K (n.signal e) ⊎ IsClosed x.body
      link_told all asked =
          let happens : Happens n es e = moment.run.1 in
          given_told x.from.0 e.host (logs_of start es x.from.0) (n.signal e) _ (all x.from.0 e.host)
          (happens.takes asked)

      pub taken_told : EachSent (logs_of start es) → is_well_formed start.shape x ≡ true
          → (IsOwnWork start e.host x.body → ⊥) → (IsClosed x.body → ⊥) → K (n.signal e)
      taken_told all sound own_work closing = by (is_asked e.host x) refl fits.comes
        where
          happens : Happens n es e
          happens = moment.run.1

          fits : n.Fits e.host (logs_of start es e.host) e
          fits = happens.step.fits

          told : K (n.signal e) ⊎ IsClosed x.body → K (n.signal e)
          told (inl is) = is
          told (inr closes) = absurd (closing closes)

          by : (asked : Bool) → is_asked e.host x ≡ asked
              → comes_rightly (is_asked e.host x) start e.host (logs_of start es e.host) x → K (n.signal e)
          by true is rightly =
              let own : IsOwn start e.host (logs_of start es e.host) x =
              subst (λ asked. comes_rightly asked start e.host (logs_of start es e.host) x) is rightly in
              absurd (own_work own.work)
          by false is rightly =
              told (link_told all (neither (is_asked e.host x) (is_well_formed start.shape x) is sound))

      pub epoch_told : EachSent (logs_of start es) → is_well_formed start.shape x ≡ true → (signal : EpochSignal)
          → x.body ≡ Epoch signal → K (n.signal e)
      epoch_told all sound signal is =
          taken_told all sound (λ work. absurd (subst (IsOwnWork start e.host) is work))
          (λ closes. let differ : Epoch signal ≡ Host (Closed closes.cause) = sym is ∙ closes.is in absurd cc)

      -- what is so of all that was sent before, and of what the event sends, is so of all that was sent behind it
      pub sent_next : EachSent (logs_of start es)
          → (stops_by e.step.marks ≡ false
          → Each K (filter (is_sound start) (signals_of start e.host (logs_of start es e.host) e)))
          → EachSent (logs_of start (e ∷ es))
      sent_next old new =
          event_each n e es (λ i log. (j : ℕ) → Each K (sent n i j log))
          (λ j.
          put_each n K j (sent_by n e.host (logs_of start es e.host) e) (sent n e.host j (logs_of start es e.host))
          (sent_by_each n K e.host (logs_of start es e.host) e new) (old e.host j))
          (λ i other. old i)

-- nothing that was sent at a moment has a greater header than the current view
pub sent_below : (start : Start) (all : ℕ → List HostStep) (es : List HostStep) → IsMoment start all es → (i j : ℕ)
    → Each (λ (x : Addressed). x.signal.view.number ≤ current_number start (logs_of start es))
    (sent (sound_machine start) i j (logs_of start es i))
sent_below start all es moment i j = by (cases_lt i (hosts start))
  where
    logs : ℕ → List HostStep
    logs = logs_of start es

    by : (i < hosts start) ⊎ (hosts start ≤ i)
        → Each (λ (x : Addressed). x.signal.view.number ≤ current_number start (logs_of start es))
        (sent (sound_machine start) i j (logs_of start es i))
    by (inl low) =
        each_map _ _ (sent (sound_machine start) i j (logs_of start es i))
        (λ x below. let up = current_above start (logs_of start es) moment.cluster.nobody i low in
        omega (arith, below, up))
        (sent_low start moment.cluster.nobody i j (logs_of start es i))
    by (inr high) =
        subst (λ log. Each (λ (x : Addressed). x.signal.view.number ≤ current_number start (logs_of start es))
        (sent (sound_machine start) i j log))
        (sym (moment_within start all es moment i high)) tt
