-- No host takes a signal of a greater view than the current one, but for what isn't well formed and so changes nothing:
-- so a host without a membership comes to no greater view than that.
use Rattle.std.proofs.Common.{◌≡◌, ◌≤◌, ◌<◌, ◌⊎◌, ◌||◌, ◌∙◌, ℕ, zero, suc, Bool, true, false, List, [], ◌∷◌, refl}
use Rattle.std.proofs.Common.{sym, ap, subst, inl, inr, arith}
use Rattle.std.proofs.lemmas.Bool.{true≢false}
use Rattle.std.specs.Prelude.{not, None}
use Rattle.run_theory.specs.Links.{IsGiven, sent}
use Rattle.run_theory.specs.Lists.{Each}
use Rattle.run_theory.proofs.Pasts.{each_past}
use Rattle.run_theory.specs.Runs.{Happens}
use Rattle.run_theory.proofs.EventCases.{event_each}
use Rattle.world_views.proofs.TakeDriven.{not_own}
use Rattle.sig_core.specs.declared.signal.Signal.{Signal}
use Rattle.sig_core.specs.declared.view.View.{View}
use Rattle.sig_core.specs.Step.{Step, stay}
use Rattle.node_views.specs.declared.host_body.HostBody as node
use Rattle.node_views.specs.WellFormed.{is_well_formed}
use Rattle.node_views.proofs.LawLemmas.{malformed_signals_change_nothing}
use Rattle.world_core.specs.Start.{Start}
use Rattle.world_core.specs.Steps.{Addressed, HostStep}
use Rattle.world_views.specs.Machine.{IsOwn, after, closing_view, comes_rightly, step_by, step_if, stops_by, told}
use Rattle.world_views.specs.Machine.{machine}
use Rattle.world_views.specs.Sending.{is_asked}
use Rattle.view_laws.specs.Order.{sound_machine}
use Rattle.view_laws.specs.Runs.{view_after}
use Rattle.view_laws.specs.Votes.{membership_in}
use Rattle.view_laws.proofs.eras.Shapes.{shape_stays}
use Rattle.view_laws.proofs.follow.Views.{others_move}
use Rattle.view_laws.proofs.runs.ChosenViews.{of_greater}
use Rattle.moment_laws.specs.Moments.{IsMoment, logs_of}
use Rattle.moment_laws.proofs.MomentSignals.{sent_below}
use Rattle.moment_laws.proofs.MomentTurns.{current_rises, host_low, own_behind}
use Rattle.moment_laws.proofs.MomentViews.{current_above, current_number, moment_less}

-- what it doesn't ask of itself, and isn't well formed, changes nothing
pub malformed_stays : (h : ℕ) (s : node.HostBody) (x : Signal) → is_asked h x ≡ false
    → is_well_formed s.standing.shape x ≡ false → step_by h s x ≡ stay s
malformed_stays h s x unasked off =
    ap (step_if s x) (not_own h x unasked) ∙ malformed_signals_change_nothing s x off

pub told_stands : (h : ℕ) (s : node.HostBody) → (told h (stay s)).standing.view ≡ s.standing.view
told_stands zero s = refl
told_stands (suc h) s = refl

module _ (start : Start) (bound : ℕ) where
  abbrev Low : Addressed → Type 0
  Low x = x.signal.view.number ≤ bound

  -- if the host has stopped, its closings have no greater view
  abbrev StopsLow : ℕ → List HostStep → Type 0
  StopsLow h [] = Unit {0}
  StopsLow h (f ∷ log) = stops_by f.step.marks ≡ true → (closing_view start h log f).number ≤ bound

  given_low : (i j : ℕ) (log : List HostStep) (x : Addressed) (xs : List Addressed)
      → Each Low (sent (sound_machine start) i j log) → StopsLow i log
      → IsGiven (sound_machine start) i j log (x ∷ xs) → Low x
  given_low i j log x xs all stops (inl past) = let told : Each Low (x ∷ xs) = each_past Low past all in told.0
  given_low i j [] x xs all stops (inr closing) = absurd closing
  given_low i j (f ∷ log) x xs all stops (inr closing) =
      let same : (sound_machine start).closing i log f j ≡ x = cc (closing.is) in
      subst Low same (stops closing.stops)

module _ (start : Start) (all : ℕ → List HostStep) (e : HostStep) (es : List HostStep)
    (moment : IsMoment start all (e ∷ es))
  where
    abbrev old : ℕ → List HostStep
    old = logs_of start es

    abbrev new : ℕ → List HostStep
    new = logs_of start (e ∷ es)

    abbrev x : Signal
    x = e.step.taken

    abbrev s : node.HostBody
    s = after start e.host (old e.host)

    abbrev less : IsMoment start all es
    less = moment_less start all e es moment

    happens : Happens (sound_machine start) es e
    happens = moment.run.1

    -- the signal changes nothing, or has no greater view than the current one
    module _ (stops : (h : ℕ) → StopsLow start (current_number start old) h (old h)) where
      asked_low : is_asked e.host x ≡ true → x.view.number ≤ current_number start old
      asked_low is =
          let own : IsOwn start e.host (old e.host) x =
          subst (λ asked. comes_rightly asked start e.host (old e.host) x) is happens.step.fits.comes in
          let view = ap (λ (y : Signal). y.view.number) own.is in
          let up = current_above start old moment.cluster.nobody e.host (host_low start all e es moment) in
          omega (arith, view, up)

      linked_low : is_asked e.host x ≡ false → is_well_formed start.shape x ≡ true
          → x.view.number ≤ current_number start old
      linked_low unasked sound =
          given_low start (current_number start old) x.from.0 e.host (old x.from.0)
          (record { to = e.host; signal = x }) _ (sent_below start all es less x.from.0 e.host) (stops x.from.0)
          (happens.takes (λ i. unasked i || not (sound i)))

      same_or_low : (step_by e.host s x ≡ stay s) ⊎ (x.view.number ≤ current_number start old)
      same_or_low = by (is_asked e.host x) refl (is_well_formed start.shape x) refl
        where
          by : (a : Bool) → is_asked e.host x ≡ a → (b : Bool) → is_well_formed start.shape x ≡ b
              → (step_by e.host s x ≡ stay s) ⊎ (x.view.number ≤ current_number start old)
          by true asked b sound = inr (asked_low asked)
          by false unasked true sound = inr (linked_low unasked sound)
          by false unasked false sound =
              inl (malformed_stays e.host s x unasked
              (ap (λ shape. is_well_formed shape x) (shape_stays start moment.cluster.nobody e.host (old e.host))
              ∙ sound))

      own_stops : StopsLow start (current_number start new) e.host (e ∷ old e.host)
      own_stops is = by same_or_low
        where
          by : (step_by e.host s x ≡ stay s) ⊎ (x.view.number ≤ current_number start old)
              → (closing_view start e.host (old e.host) e).number ≤ current_number start new
          by (inl same) =
              absurd (true≢false (sym is ∙ (ap stops_by happens.step.fits.marks
              ∙ ap (λ (t : Step node.HostBody). stops_by t.effects.marks) same)))
          by (inr low) =
              of_greater (λ (v : View). v.number ≤ current_number start new) (view_after start e.host (e ∷ old e.host))
              x.view
              (let own = ap (λ (v : View). v.number) (own_behind start all e es moment) in
              let up = current_above start new moment.cluster.nobody e.host (host_low start all e es moment) in
              omega (arith, own, up))
              (let rises = current_rises start all e es moment in omega (arith, low, rises))

      older_stops : (h : ℕ) (log : List HostStep) → StopsLow start (current_number start old) h log
          → StopsLow start (current_number start new) h log
      older_stops h [] low = tt
      older_stops h (f ∷ log) low =
          λ is. let was = low is in let rises = current_rises start all e es moment in omega (arith, was, rises)

      stops_next : (h : ℕ) → StopsLow start (current_number start new) h (new h)
      stops_next =
          event_each (machine start) e es (StopsLow start (current_number start new)) own_stops
          (λ h off. older_stops h (old h) (stops h))

      -- a host without a membership doesn't come to a greater view than the current one
      pub own_low : membership_in s.parts ≡ None
          → (view_after start e.host (e ∷ old e.host)).number ≤ current_number start old
      own_low none = by same_or_low (others_move e.host s x none)
        where
          stood : (view_after start e.host (old e.host)).number ≤ current_number start old
          stood = current_above start old moment.cluster.nobody e.host (host_low start all e es moment)

          by : (step_by e.host s x ≡ stay s) ⊎ (x.view.number ≤ current_number start old)
              → ((view_after start e.host (e ∷ old e.host)) ≡ s.standing.view)
              ⊎ ((s.standing.view.number < x.view.number) × ((view_after start e.host (e ∷ old e.host)) ≡ x.view))
              → (view_after start e.host (e ∷ old e.host)).number ≤ current_number start old
          by same (inl stays) = let is = ap (λ (v : View). v.number) stays in omega (arith, is, stood)
          by (inl same) (inr moved) =
              let is =
              ap (λ (t : Step node.HostBody). (told e.host t).standing.view.number) same
              ∙ ap (λ (v : View). v.number) (told_stands e.host s) in
              omega (arith, is, stood)
          by (inr low) (inr (above, is)) =
              let number = ap (λ (v : View). v.number) is in omega (arith, number, low)

pub stops_low : (start : Start) (all : ℕ → List HostStep) (es : List HostStep) → IsMoment start all es → (h : ℕ)
    → StopsLow start (current_number start (logs_of start es)) h (logs_of start es h)
stops_low start all [] moment h = tt
stops_low start all (e ∷ es) moment h =
    stops_next start all e es moment (stops_low start all es (moment_less start all e es moment)) h
