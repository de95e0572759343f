-- At an event the current view stays and the host of the event stands in it, or stops; or the host enters a greater
-- one.
use Rattle.std.proofs.Common.{◌≡◌, ◌≢◌, ◌≤◌, ◌<◌, ◌⊎◌, ℕ, Bool, true, false, List, ◌∷◌, refl, sym, ap, subst, ◌∙◌, inl}
use Rattle.std.proofs.Common.{inr, arith}
use Rattle.std.proofs.lemmas.Bool.{cases_lt}
use Rattle.std.specs.Prelude.{if◌then◌else◌}
use Rattle.frag_map.specs.Layout.{first_layout}
use Rattle.run_theory.proofs.Runs.{log_of-other, log_of-own}
use Rattle.run_theory.proofs.EventCases.{event_cases, event_moves}
use Rattle.sig_core.specs.declared.view.View.{View}
use Rattle.world_core.specs.Hosts.{hosts}
use Rattle.world_core.specs.Start.{Start}
use Rattle.world_core.specs.Steps.{HostStep}
use Rattle.world_views.specs.Machine.{closing_view, machine, stops_by}
use Rattle.view_laws.specs.Order.{era}
use Rattle.view_laws.specs.Runs.{view_after}
use Rattle.view_laws.proofs.eras.Causal.{era_going}
use Rattle.view_laws.proofs.eras.Rises.{view_rises}
use Rattle.view_laws.proofs.runs.AllSound.{have_orderly}
use Rattle.view_laws.proofs.runs.Step.{host_there}
use Rattle.view_laws.proofs.runs.ChosenViews.{of_greater, one_view}
use Rattle.moment_laws.specs.Moments.{IsMoment, current, logs_of}
use Rattle.moment_laws.proofs.MomentViews.{IsSome, current_above, current_is, current_number, first_below}
use Rattle.moment_laws.proofs.MomentViews.{moment_installed, moment_less, moment_within, number_in, stands_in_current}

module _ (start : Start) (all : ℕ → List HostStep) (e : HostStep) (es : List HostStep)
    (moment : IsMoment start all (e ∷ es))
  where
    abbrev pub before : ℕ → List HostStep
    before = logs_of start es

    abbrev pub behind : ℕ → List HostStep
    behind = logs_of start (e ∷ es)

    -- the view in which the host of the event stands behind it
    abbrev pub own_view : View
    own_view = view_after start e.host (e ∷ before e.host)

    -- what comes to the current view by the event
    pub data Turn : Type 0 where
      keeps : current start behind ≡ current start before
          → (stops_by e.step.marks ≡ false → own_view ≡ current start behind) → Turn
      raises : current_number start before < current_number start behind → own_view ≡ current start behind → Turn

    pub host_low : e.host < hosts start
    host_low = host_there start e es (moment_within start all (e ∷ es) moment)

    pub own_log : behind e.host ≡ e ∷ before e.host
    own_log = log_of-own (machine start) e es e.host refl

    pub other_log : (h : ℕ) → e.host ≢ h → behind h ≡ before h
    other_log h other = log_of-other (machine start) e es h other

    pub own_behind : view_after start e.host (behind e.host) ≡ own_view
    own_behind = ap (view_after start e.host) own_log

    abbrev own_number : ℕ
    own_number = own_view.number

    own_number_is : number_in start behind e.host ≡ own_number
    own_number_is = ap (λ (v : View). v.number) own_behind

    -- the view of each host rises
    pub number_rises : (h : ℕ) → number_in start before h ≤ number_in start behind h
    number_rises =
        event_moves (machine start) e es
        (λ h old log. (view_after start h old).number ≤ (view_after start h log).number)
        (view_rises start moment.cluster.nobody e.host (before e.host) e) (λ h log. omega arith)

    -- each host stands below what is above the current view before it and above the view of its host behind it
    others_below : (number h : ℕ) → h < hosts start → current_number start before ≤ number → own_number ≤ number
        → number_in start behind h ≤ number
    others_below number h low old new =
        event_cases (machine start) e es h (λ log. (view_after start h log).number ≤ number)
        (λ at. subst (λ h. (view_after start h (e ∷ before h)).number ≤ number) at new)
        (λ other. let up = current_above start before moment.cluster.nobody h low in omega (arith, up, old))

    current_below : (number : ℕ) → current_number start before ≤ number → own_number ≤ number
        → current_number start behind ≤ number
    current_below number old new = by (current start behind) (current_is start behind moment.cluster.nobody)
      where
        by : (view : View) → IsSome start behind (hosts start) view → view.number ≤ number
        by view (inl first) =
            let same : view.number ≡ (first_layout start.shape).view.number = ap (λ (v : View). v.number) first in
            let up = first_below start before moment.cluster.nobody in
            omega (arith, same, up, old)
        by view (inr one) =
            let same : view.number ≡ number_in start behind one.host = ap (λ (v : View). v.number) one.is in
            let up = others_below number one.host one.below old new in
            omega (arith, same, up)

    pub current_rises : current_number start before ≤ current_number start behind
    current_rises = by (current start before) (current_is start before moment.cluster.nobody)
      where
        by : (view : View) → IsSome start before (hosts start) view → view.number ≤ current_number start behind
        by view (inl first) =
            let same : view.number ≡ (first_layout start.shape).view.number = ap (λ (v : View). v.number) first in
            let up = first_below start behind moment.cluster.nobody in
            omega (arith, same, up)
        by view (inr one) =
            let same : view.number ≡ number_in start before one.host = ap (λ (v : View). v.number) one.is in
            let rises = number_rises one.host in
            let up = current_above start behind moment.cluster.nobody one.host one.below in
            omega (arith, same, rises, up)

    own_above : own_number ≤ current_number start behind
    own_above =
        let up = current_above start behind moment.cluster.nobody e.host host_low in
        let is = own_number_is in
        omega (arith, up, is)

    -- a view of the number of the current one is that
    own_current : own_number ≡ current_number start behind → own_view ≡ current start behind
    own_current same =
        sym own_behind ∙ stands_in_current start all (e ∷ es) moment e.host host_low (own_number_is ∙ same)

    pub old_current : current_number start behind ≡ current_number start before
        → current start behind ≡ current start before
    old_current same =
        one_view have_orderly start all moment.cluster (current start behind) (current start before)
        (moment_installed start all (e ∷ es) moment)
        (moment_installed start all es (moment_less start all e es moment)) same

    pub turn : Turn
    turn = by (cases_lt (current_number start before) own_number)
      where
        by : (current_number start before < own_number) ⊎ (own_number ≤ current_number start before) → Turn
        by (inl above) =
            let old : current_number start before ≤ own_number = omega (arith, above) in
            let new : own_number ≤ own_number = omega arith in
            let below = current_below own_number old new in
            let up = own_above in
            raises (omega (arith, above, up)) (own_current (omega (arith, below, up)))
        by (inr low) =
            let old : current_number start before ≤ current_number start before = omega arith in
            let below = current_below (current_number start before) old low in
            let rises = current_rises in
            keeps (old_current (omega (arith, below, rises)))
            (λ goes.
            let ordered = moment.ordered.0 in
            let going = era_going start e.host (before e.host) e goes in
            own_current (omega (arith, ordered, going, low, below, rises)))

    -- at any rate the host stands in the current view behind it, unless it stops
    pub stands_behind : stops_by e.step.marks ≡ false → own_view ≡ current start behind
    stands_behind goes = by turn
      where
        by : Turn → own_view ≡ current start behind
        by (keeps same stands) = stands goes
        by (raises above stands) = stands

    -- so it is where it takes a signal of no greater view, whether or not it stops
    era_low : e.step.taken.view.number ≤ own_number → era start e.host (e ∷ before e.host) ≤ own_number
    era_low low = by (stops_by e.step.marks)
      where
        by : (stops : Bool)
            → (if stops then (closing_view start e.host (before e.host) e).number else own_number) ≤ own_number
        by true = of_greater (λ (v : View). v.number ≤ own_number) own_view e.step.taken.view (omega arith) low
        by false = omega arith

    pub taker_stands : e.step.taken.view.number ≤ own_number → own_view ≡ current start behind
    taker_stands low = by turn
      where
        by : Turn → own_view ≡ current start behind
        by (keeps same stands) =
            let ordered = moment.ordered.0 in
            let under = era_low low in
            let above = own_above in
            let is : current_number start behind ≡ current_number start before = ap (λ (v : View). v.number) same in
            own_current (omega (arith, ordered, under, above, is))
        by (raises above stands) = stands
