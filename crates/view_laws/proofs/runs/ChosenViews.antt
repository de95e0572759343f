-- From the ballots of runs to the views in all right logs: each that was installed is chosen.
use Rattle.std.proofs.Common.{◌≡◌, ◌<◌, ◌⊎◌, ℕ, suc, Bool, true, false, if◌then◌else◌, nat_lt, List, [], ◌∷◌, ◌++◌, ap}
use Rattle.std.proofs.Common.{sym, subst, ◌∙◌, inl, inr, lt-suc_self}
use Rattle.frag_map.proofs.FirstReplicas.{first_viable}
use Rattle.frag_map.specs.Groups.{is_viable}
use Rattle.frag_map.specs.Shape.{IsShape}
use Rattle.run_theory.proofs.Along.{of_runs}
use Rattle.run_theory.proofs.Pasts.{past_cases}
use Rattle.run_theory.proofs.Runs.{log_of-own, log_of-past}
use Rattle.run_theory.specs.Lists.{IsPast}
use Rattle.run_theory.specs.Runs.{IsWithin, Run, log_of}
use Rattle.run_theory.proofs.EventCases.{event_cases}
use Rattle.sig_core.specs.declared.view.View.{View}
use Rattle.api_views.specs.Members.{greater_view}
use Rattle.world_core.specs.Hosts.{hosts}
use Rattle.world_core.specs.Start.{NobodyStarts, Start}
use Rattle.world_core.specs.Steps.{HostStep}
use Rattle.world_views.proofs.SentFacts.{is_stamped}
use Rattle.world_views.specs.Machine.{machine}
use Rattle.view_laws.specs.Ballots.{IsChosen}
use Rattle.view_laws.specs.Orderly.{AreOrderly}
use Rattle.view_laws.specs.Runs.{AreOfCluster, IsRun, OneViewOfANumber, RunsHaveOrderlyBallots, ViewsAreViable}
use Rattle.view_laws.specs.Runs.{WasInstalled, ballots_of, view_after}
use Rattle.view_laws.proofs.ballots.OneOfANumber.{chained}
use Rattle.view_laws.proofs.ballots.MadeOfLesser.{origin}
use Rattle.view_laws.proofs.runs.Growth.{ballots_grow, chosen_more}

-- nothing is older than nothing
pub past_none : {A : Type 0} (xs : List A) → IsPast xs [] → xs ≡ []
past_none {A} xs past = go past.newer past.is
  where
    go : (newer : List A) → [] ≡ newer ++ xs → xs ≡ []
    go [] is = sym is
    go (x ∷ newer) is = absurd cc

-- what holds of two views holds of the greater one
pub of_greater : (P : View → Type 0) (own taken : View) → P own → P taken → P (greater_view own taken)
of_greater P own taken is other = by (nat_lt own.number taken.number)
  where
    by : (b : Bool) → P (if b then taken else own)
    by true = other
    by false = is

module _ (start : Start) where
  -- a run without its newest event is of the hosts that there are too
  pub within_less : (e : HostStep) (es : List HostStep) → IsWithin (hosts start) (log_of (machine start) (e ∷ es))
      → IsWithin (hosts start) (log_of (machine start) es)
  within_less e es within h high =
      past_none (log_of (machine start) es h)
      (subst (IsPast (log_of (machine start) es h)) (within h high) (log_of-past (machine start) e es h))

  run_less : (e : HostStep) (es : List HostStep) → IsRun start (e ∷ es) → IsRun start es
  run_less e es run =
      record { shape = run.shape; nobody = run.nobody; run = run.run.0; within = within_less e es run.within }

  -- ballots are orderly, and each view in which a host stood after a part of its log is chosen
  pub record AreChosen (logs : ℕ → List HostStep) : Type 0 where
    pub orderly : AreOrderly start.shape (ballots_of start logs)
    pub chosen :
        (h : ℕ) (log : List HostStep) → h < hosts start → IsPast log (logs h)
        → IsChosen start.shape (ballots_of start logs) (view_after start h log)

  module _ (runs : RunsHaveOrderlyBallots) where
    -- a view in which a host stood after this log is chosen after this run
    abbrev IsChosenAfter : List HostStep → ℕ → List HostStep → Type 0
    IsChosenAfter es h log =
        IsChosen start.shape (ballots_of start (log_of (machine start) es)) (view_after start h log)

    still_chosen : (e : HostStep) (es : List HostStep) (h : ℕ) (log : List HostStep) → IsChosenAfter es h log
        → IsChosenAfter (e ∷ es) h log
    still_chosen e es h log =
        chosen_more
        (ballots_grow start (log_of (machine start) es) (log_of (machine start) (e ∷ es))
        (log_of-past (machine start) e es))
        start.shape (view_after start h log)

    was_chosen : (es : List HostStep) → IsRun start es → (h : ℕ) (log : List HostStep) → h < hosts start
        → IsPast log (log_of (machine start) es h) → IsChosenAfter es h log
    was_chosen [] run h log low past =
        subst (IsChosenAfter [] h) (sym (past_none log past)) ((runs start [] run).chosen h low)
    was_chosen (e ∷ es) run h log low past =
        let before = was_chosen es (run_less e es run) h log low in
        event_cases (machine start) e es h (λ all. IsPast log all → IsChosenAfter (e ∷ es) h log)
        (λ at past. own at (past_cases e past) before) (λ apart past. still_chosen e es h log (before past)) past
      where
        own : e.host ≡ h → (e ∷ log_of (machine start) es h ≡ log) ⊎ IsPast log (log_of (machine start) es h)
            → (IsPast log (log_of (machine start) es h) → IsChosenAfter es h log) → IsChosenAfter (e ∷ es) h log
        own at (inl is) before =
            subst (IsChosenAfter (e ∷ es) h) (log_of-own (machine start) e es h at ∙ is)
            ((runs start (e ∷ es) run).chosen h low)
        own at (inr older) before = still_chosen e es h log (before older)

    run_chosen : IsShape start.shape → NobodyStarts start → (es : List HostStep) → Run (machine start) es
        → IsWithin (hosts start) (log_of (machine start) es) → AreChosen (log_of (machine start) es)
    run_chosen shape nobody es run within =
        let is_run : IsRun start es = record { shape = shape; nobody = nobody; run = run; within = within } in
        record { orderly = (runs start es is_run).orderly; chosen = was_chosen es is_run }

    pub logs_chosen : (logs : ℕ → List HostStep) → AreOfCluster start logs → AreChosen logs
    logs_chosen logs are =
        of_runs (machine start) (is_stamped start) (λ logs. IsWithin (hosts start) logs → AreChosen logs)
        (run_chosen are.shape are.nobody) (hosts start) logs are.within are.right are.within

module _ (runs : RunsHaveOrderlyBallots) where
  pub installed_chosen : (start : Start) (logs : ℕ → List HostStep) → AreOfCluster start logs → (view : View)
      → WasInstalled start logs view → IsChosen start.shape (ballots_of start logs) view
  installed_chosen start logs are view was =
      subst (IsChosen start.shape (ballots_of start logs)) (sym was.is)
      ((logs_chosen start runs logs are).chosen was.host was.log was.there was.past)

  pub one_view : OneViewOfANumber
  one_view start logs are one other was was_too same =
      (chained start.shape are.shape (ballots_of start logs) (logs_chosen start runs logs are).orderly
      (suc one.number)).same
      one other (installed_chosen start logs are one was) (installed_chosen start logs are other was_too) same
      (lt-suc_self one.number)

  pub viable : ViewsAreViable
  viable start logs are view was = by (installed_chosen start logs are view was)
    where
      by : IsChosen start.shape (ballots_of start logs) view → is_viable start.shape view ≡ true
      by (inl is) = ap (is_viable start.shape) is ∙ first_viable start.shape are.shape
      by (inr won) = (origin start.shape (ballots_of start logs)
          (logs_chosen start runs logs are).orderly view won).viable
