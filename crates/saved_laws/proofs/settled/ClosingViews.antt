-- Where an epoch is closed the current view stays: whoever closes it has heard in that view that takeover is over, and
-- nothing is heard in a view before a host stands in it; or the view is the first.
use Rattle.std.proofs.Common.{◌<◌, ◌≡◌, ◌≤◌, ◌⊎◌, ℕ, List, ◌∷◌, ap, inl, inr, arith}
use Rattle.run_theory.proofs.Runs.{given_taken, logs_of_run}
use Rattle.run_theory.specs.Links.{IsGiven, taken}
use Rattle.run_theory.specs.Lists.{IsIn}
use Rattle.run_theory.specs.Machine.{Machine}
use Rattle.frag_map.specs.Layout.{first_layout}
use Rattle.sig_core.specs.declared.mark.Mark.TheVariants.{Closed}
use Rattle.sig_core.specs.declared.member.Member.{Member}
use Rattle.sig_core.specs.declared.view.View.{View}
use Rattle.world_core.specs.Start.{Start, made}
use Rattle.world_core.specs.Steps.{Addressed, HostStep}
use Rattle.view_laws.specs.Order.{sound_machine}
use Rattle.view_laws.specs.Votes.{main_of}
use Rattle.moment_laws.proofs.MomentHosts.{ldm_number, main_number}
use Rattle.moment_laws.proofs.MomentMembers.{current_made}
use Rattle.moment_laws.proofs.MomentSignals.{sent_below}
use Rattle.moment_laws.proofs.MomentTurns.{current_rises, old_current, other_log}
use Rattle.moment_laws.proofs.MomentViews.{current_number, first_below, moment_less}
use Rattle.moment_laws.specs.Moments.{IsMoment, current, logs_of}
use Rattle.moment_laws.specs.Places.{ldm_of, tc_of}
use Rattle.epoch_laws.proofs.StandMasters.{first_inside}
use Rattle.outcome_laws.proofs.knowledge.Moments.{is_host, not_closed}
use Rattle.commit_laws.proofs.orders.Sound.{given_so, sound_closes}
use Rattle.closing_laws.proofs.closers.Hear.{closers_have_heard_all}
use Rattle.closing_laws.specs.Closed.{IsClosing, IsOver}

module _ (start : Start) (all : ℕ → List HostStep) (e : HostStep) (es : List HostStep)
    (begins : start.start_epoch < start.epoch) (moment : IsMoment start all (e ∷ es)) (epoch : ℕ)
    (marked : IsIn (Closed epoch) e.step.marks)
  where
    abbrev old : ℕ → List HostStep
    old = logs_of start es

    abbrev new : ℕ → List HostStep
    new = logs_of start (e ∷ es)

    abbrev n : Machine HostStep Addressed
    n = sound_machine start

    before : IsMoment start all es
    before = moment_less start all e es moment

    pub closing : IsClosing start e (logs_of start (e ∷ es)) epoch
    closing = closers_have_heard_all start all e es begins moment epoch marked

    -- who closes it was made
    pub closer_made : IsIn closing.member (made start)
    closer_made =
        current_made start all (e ∷ es) moment closing.member
        (first_inside closing.member (current start new).full closing.is.president)

    -- what it has taken was sent before
    over_low : IsOver start (logs_of start (e ∷ es)) closing.member
        → current_number start (logs_of start (e ∷ es)) ≤ current_number start (logs_of start es)
    over_low over =
        let low : over.signal.signal.view.number ≤ current_number start old =
        given_so n (sound_closes start) (λ (y : Addressed). y.signal.view.number ≤ current_number start old) h k (old h)
        (taken n h (new k)) (sent_below start all es before h k) given over.signal over.there
        (not_closed over.signal.signal.body (ap is_host over.body)) in
        let same = over.number in
        omega (arith, low, same)
      where
        h : ℕ
        h = tc_of start closing.member

        k : ℕ
        k = main_of start closing.member

        given : IsGiven (sound_machine start) (tc_of start closing.member) (main_of start closing.member)
            (logs_of start es (tc_of start closing.member))
            (taken (sound_machine start) (tc_of start closing.member)
            (logs_of start (e ∷ es) (main_of start closing.member)))
        given = given_taken n es e h k moment.run.1 ((logs_of_run n es before.run).linked h k)

    stays_low : current_number start (logs_of start (e ∷ es)) ≤ current_number start (logs_of start es)
    stays_low = by closing.is.over
      where
        by : (current start (logs_of start (e ∷ es)) ≡ (first_layout start.shape).view)
            ⊎ IsOver start (logs_of start (e ∷ es)) closing.member
            → current_number start (logs_of start (e ∷ es)) ≤ current_number start (logs_of start es)
        by (inl first) =
            let number : current_number start new ≡ (first_layout start.shape).view.number =
            ap (λ (v : View). v.number) first in
            let below = first_below start old moment.cluster.nobody in
            omega (arith, number, below)
        by (inr over) = over_low over

    pub view_kept : current start (logs_of start (e ∷ es)) ≡ current start (logs_of start es)
    view_kept =
        let low = stays_low in
        let rises = current_rises start all e es moment in
        old_current start all e es moment (omega (arith, low, rises))

    -- and so do the logs of rows
    pub rows_kept : (member : Member) → IsIn member (made start)
        → logs_of start (e ∷ es) (ldm_of start member) ≡ logs_of start es (ldm_of start member)
    rows_kept member there =
        other_log start all e es moment (ldm_of start member)
        (λ same.
        let main = main_number start moment.cluster.nobody closing.member closer_made in
        let rows = ldm_number start moment.cluster.nobody member there in
        let at = closing.is.host_is in
        omega (arith, same, main, rows, at))
