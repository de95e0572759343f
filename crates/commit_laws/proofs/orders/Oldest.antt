-- The host of the oldest member's membership comes to a view before all others, and by no header, if it is the one that
-- settles on it.
use Rattle.std.proofs.Common.{◌≡◌, ◌≤◌, ◌<◌, ◌⊎◌, ◌++◌, ℕ, Bool, true, false, List, [], ◌∷◌, inl, inr, refl, sym, ap}
use Rattle.std.proofs.Common.{subst, arith}
use Rattle.run_theory.specs.Along.{Comes, IsKept}
use Rattle.run_theory.specs.Lists.{IsIn, IsPast}
use Rattle.run_theory.specs.Runs.{IsWithin, log_of}
use Rattle.run_theory.proofs.Along.{along_signals_of_logs}
use Rattle.run_theory.proofs.Pasts.{each_map}
use Rattle.run_theory.proofs.Runs.{log_of-own, logs_of_run}
use Rattle.frag_map.specs.Shape.{IsShape}
use Rattle.run_theory.proofs.Pasts.{past_self}
use Rattle.run_theory.proofs.EventCases.{event_moves, event_each, event_cases}
use Rattle.world_views.specs.Machine.{comes_rightly}
use Rattle.world_views.specs.Sending.{is_asked}
use Rattle.view_laws.proofs.standing.Oldest.{ViewsComeRightly}
use Rattle.view_laws.proofs.follow.Senders.{own_view}
use Rattle.sig_core.specs.declared.member.Member.{Member}
use Rattle.sig_core.specs.declared.signal.Signal.{Signal}
use Rattle.sig_core.specs.declared.view.View.{View}
use Rattle.qmgr_block.specs.Install.{is_oldest_of}
use Rattle.world_core.specs.Hosts.{hosts}
use Rattle.world_core.specs.Start.{NobodyStarts, Start, made}
use Rattle.world_core.specs.Steps.{Addressed, HostStep}
use Rattle.world_views.proofs.SentFacts.{is_stamped}
use Rattle.world_views.specs.Machine.{machine, signals_of}
use Rattle.view_laws.specs.Runs.{AreOfCluster, view_after}
use Rattle.view_laws.specs.Votes.{main_of}
use Rattle.view_laws.proofs.eras.Rises.{view_rises}
use Rattle.view_laws.proofs.follow.Senders.{each_from}
use Rattle.view_laws.proofs.runs.Step.{host_there, started_view}
use Rattle.view_laws.proofs.runs.ChosenViews.{of_greater, within_less}
use Rattle.moment_laws.specs.Moments.{logs_of}
use Rattle.request_laws.proofs.routes.Headers.{event_past}
use Rattle.commit_laws.proofs.orders.Once.{OldestGoFirst}

module _ (come_rightly : ViewsComeRightly) (start : Start) (nobody : NobodyStarts start)
    (is_shape : IsShape start.shape) where
  abbrev reach : Member → (ℕ → List HostStep) → ℕ
  reach me logs = (view_after start (main_of start me) (logs (main_of start me))).number

  -- the oldest of the view has come to it
  abbrev IsAhead : (ℕ → List HostStep) → View → Type 0
  IsAhead logs view =
      (me : Member) → IsIn me (made start) → is_oldest_of me view.full ≡ true → view.number ≤ reach me logs

  -- and by no header, along the log of its host
  abbrev IsYoung : Member → List HostStep → HostStep → Type 0
  IsYoung me log e =
      (view_after start (main_of start me) log).number < e.step.taken.view.number
      → is_oldest_of me e.step.taken.view.full ≡ false

  abbrev AreYoung : Member → List HostStep → Type 0
  AreYoung me [] = Unit {0}
  AreYoung me (e ∷ log) = IsYoung me log e × AreYoung me log

  record AreAhead (logs : ℕ → List HostStep) : Type 0 where
    views : (h : ℕ) → h < hosts start → IsAhead logs (view_after start h (logs h))
    young : (me : Member) → IsIn me (made start) → AreYoung me (logs (main_of start me))

  abbrev Q : (ℕ → List HostStep) → Type 0
  Q logs = IsWithin (hosts start) logs → AreAhead logs

  abbrev K : Addressed → (ℕ → List HostStep) → Type 0
  K x logs = IsWithin (hosts start) logs → IsAhead logs x.signal.view

  first_ahead : AreAhead (log_of (machine start) [])
  first_ahead = record {
    views = λ h low me there is.
        let own = ap (λ (v : View). v.number) (started_view start nobody h) in
        let main = ap (λ (v : View). v.number) (started_view start nobody (main_of start me)) in
        omega (arith, own, main);
    young = λ me there. tt;
  }

  module _ (es : List HostStep) (e : HostStep) where
    abbrev old : ℕ → List HostStep
    old = log_of (machine start) es

    abbrev new : ℕ → List HostStep
    new = log_of (machine start) (e ∷ es)

    reach_more : (me : Member) → reach me old ≤ reach me new
    reach_more me =
        event_moves (machine start) e es (λ h was log. (view_after start h was).number ≤
        (view_after start h log).number)
        (view_rises start nobody e.host (old e.host) e) (λ h log. omega arith) (main_of start me)

    more : (view : View) → IsAhead old view → IsAhead new view
    more view ahead me there is =
        let was = ahead me there is in
        let rises = reach_more me in
        omega (arith, was, rises)

    module _ (come : Comes (machine start) K Q es e) (within : IsWithin (hosts start) (log_of (machine start) (e ∷ es)))
      where
        before : AreAhead old
        before = come.all.law (within_less start e es within)

        x : Signal
        x = e.step.taken

        low : e.host < hosts start
        low = host_there start e es within

        taken : IsAhead old e.step.taken.view
        taken = by (is_asked e.host e.step.taken) refl come.happens.step.fits.comes
          where
            by : (asked : Bool) → is_asked e.host e.step.taken ≡ asked
                → comes_rightly asked start e.host (old e.host) e.step.taken → IsAhead old e.step.taken.view
            by true is own =
                subst (IsAhead old) (sym (own_view start e.host (old e.host) e.step.taken own))
                (before.views e.host low)
            by false is uncut = come.told is (within_less start e es within)

        -- the view in which the host stands behind the step
        own_ahead : IsAhead new (view_after start e.host (e ∷ old e.host))
        own_ahead =
            by (come_rightly start new
            (record {
              shape =
                  is_shape;
              nobody = nobody;
              right = logs_of_run (machine start) (e ∷ es) (come.run, come.happens);
              within = within;
            })
            e.host low (old e.host) e
            (subst (IsPast (e ∷ old e.host)) (sym (log_of-own (machine start) e es e.host refl))
            (past_self (e ∷ old e.host))))
          where
            by : (view_after start e.host (e ∷ old e.host) ≡ view_after start e.host (old e.host))
                ⊎ ((view_after start e.host (e ∷ old e.host) ≡ e.step.taken.view)
                ⊎ ((me : Member) → IsIn me (made start)
                → is_oldest_of me (view_after start e.host (e ∷ old e.host)).full ≡ true → main_of start me ≡ e.host))
                → IsAhead new (view_after start e.host (e ∷ old e.host))
            by (inl same) =
                subst (IsAhead new) (sym same) (more (view_after start e.host (old e.host)) (before.views e.host low))
            by (inr (inl same)) = subst (IsAhead new) (sym same) (more e.step.taken.view taken)
            by (inr (inr runs)) = λ me there is.
                let same = ap (λ h. (view_after start h (new h)).number) (runs me there is) in
                let own =
                ap (λ log. (view_after start e.host log).number) (log_of-own (machine start) e es e.host refl) in
                omega (arith, same, own)

        views_now : (h : ℕ) → h < hosts start → IsAhead new (view_after start h (new h))
        views_now =
            event_each (machine start) e es (λ h log. h < hosts start → IsAhead new (view_after start h log))
            (λ under. own_ahead) (λ h off under. more (view_after start h (old h)) (before.views h under))

        young_now : (me : Member) → IsIn me (made start) → AreYoung me (new (main_of start me))
        young_now me there =
            event_cases (machine start) e es (main_of start me) (AreYoung me)
            (λ at. (unless (is_oldest_of me e.step.taken.view.full) refl, before.young me there))
            (λ off. before.young me there)
          where
            unless : (b : Bool) → is_oldest_of me e.step.taken.view.full ≡ b
                → (view_after start (main_of start me) (old (main_of start me))).number < e.step.taken.view.number
                → b ≡ false
            unless true is above = let reached = taken me there is in absurd (omega (arith, reached, above))
            unless false is above = refl

        now : AreAhead new
        now = record { views = views_now; young = young_now }

  kept : IsKept (machine start) K Q
  kept = record {
    start = λ within. first_ahead;
    step = λ es e come within. now es e come within;
    sends = λ es e come runs.
        each_map _ (λ (x : Addressed). K x (log_of (machine start) (e ∷ es)))
        (signals_of start e.host (log_of (machine start) es e.host) e)
        (λ x one within.
        subst (IsAhead (log_of (machine start) (e ∷ es))) (sym one.view_is) (own_ahead es e come within))
        (each_from start e.host (log_of (machine start) es e.host) e);
    closing = λ es e come stops j within.
        of_greater (IsAhead (log_of (machine start) (e ∷ es)))
        (view_after start e.host (e ∷ log_of (machine start) es e.host)) e.step.taken.view (own_ahead es e come within)
        (more es e e.step.taken.view (taken es e come within));
    stays = λ es e x come is within. more es e x.signal.view (is (within_less start e es within));
  }

  all_young : (logs : ℕ → List HostStep) → AreOfCluster start logs → (me : Member) → IsIn me (made start)
      → AreYoung me (logs (main_of start me))
  all_young logs are =
      ((along_signals_of_logs (machine start) (is_stamped start) K Q kept (hosts start) logs are.within are.right).law
      are.within).young

  young_of : (me : Member) (log : List HostStep) (e : HostStep) (newer : List HostStep)
      → AreYoung me (newer ++ e ∷ log) → IsYoung me log e
  young_of me log e [] all = all.0
  young_of me log e (f ∷ newer) all = young_of me log e newer all.1

pub oldest_go_first : ViewsComeRightly → OldestGoFirst
oldest_go_first come_rightly start all e es moment me there at =
    subst (λ h. (view_after start h (logs_of start es e.host)).number < e.step.taken.view.number
    → is_oldest_of me e.step.taken.view.full ≡ false) (sym at)
    (young_of come_rightly start moment.cluster.nobody moment.cluster.shape me (logs_of start es e.host) e past.newer
    (subst (AreYoung come_rightly start moment.cluster.nobody moment.cluster.shape me) past.is
    (subst (λ h. AreYoung come_rightly start moment.cluster.nobody moment.cluster.shape me (all h)) (sym at)
    (all_young come_rightly start moment.cluster.nobody moment.cluster.shape all moment.cluster me there))))
  where
    past : IsPast (e ∷ logs_of start es e.host) (all e.host)
    past = event_past start all e es moment
