-- A row is committed of a transaction that the node of its coordinator has decided.
use Rattle.std.proofs.Common.{◌≡◌, ◌<◌, ℕ, Bool, true, false, List, [], ◌∷◌, refl, sym, ap, ◌∙◌, subst, inl, inr, arith}
use Rattle.std.specs.List.{list_any}
use Rattle.std.specs.Prelude.{◌||◌}
use Rattle.run_theory.proofs.EventCases.{event_moves}
use Rattle.run_theory.specs.Lists.{Each, IsIn}
use Rattle.run_theory.specs.Logs.{IsLog}
use Rattle.run_theory.proofs.Cuts.{closed_of_logs}
use Rattle.run_theory.proofs.Pasts.{each_in, past_self}
use Rattle.run_theory.proofs.Runs.{log_of-own, logs_of_run}
use Rattle.world_core.specs.Steps.{HostStep}
use Rattle.sig_core.specs.declared.mark.Mark.{Mark}
use Rattle.sig_core.specs.declared.member.TxId.{TxId}
use Rattle.world_core.specs.Hosts.{home}
use Rattle.world_core.specs.Machine.{machine}
use Rattle.world_core.specs.Marks.{has_mark}
use Rattle.world_core.specs.Start.{Start}
use Rattle.world_core.proofs.Stamped.{stamped}
use Rattle.host_laws.specs.Causes.{IsDecidedBelow, is_decision}
use Rattle.host_laws.specs.Kinds.{kind_of}
use Rattle.host_laws.specs.Kinds as kind
use Rattle.run_laws.specs.Laws.{IsClosedCut}
use Rattle.run_laws.proofs.causes.Causal.{AreCausal, cuts_are_causal}
use Rattle.run_laws.proofs.causes.Facts.{CommitsRightly, DecidesRightly}
use Rattle.run_laws.specs.Decided.{CommitsAreDecided}
use Rattle.run_laws.specs.Owed.{is_decided}
use Rattle.run_laws.specs.Transit.{Comes, IsRun, logs_of}

-- the logs of a run are a closed cut of themselves
pub run_is_cut : (start : Start) (es : List HostStep) → IsRun start es
    → IsClosedCut start (logs_of start es) (logs_of start es)
run_is_cut start es run =
    let right = logs_of_run (machine start) es run.run in
    record {
      within = run.within;
      right = right;
      cut = λ h. past_self (logs_of start es h);
      closed = closed_of_logs (machine start) (stamped start) (logs_of start es) right;
    }

-- what was decided and committed along a run is so by its causes
pub run_is_causal : (start : Start) (es : List HostStep) → IsRun start es → AreCausal start (logs_of start es)
run_is_causal start es run = cuts_are_causal start (logs_of start es) (logs_of start es) (run_is_cut start es run)

pub in_mark : (test : Mark → Bool) (step : HostStep) (log : List HostStep) → IsIn step log
    → list_any test step.step.marks ≡ true → has_mark test log ≡ true
in_mark test step [] inside is = absurd inside
in_mark test step (f ∷ log) (inl same) is =
    ap (λ b. b || has_mark test log) (sym (ap (λ (g : HostStep). list_any test g.step.marks) same) ∙ is)
in_mark test step (f ∷ log) (inr inside) is = by (list_any test f.step.marks) (in_mark test step log inside is)
  where
    by : (b : Bool) → has_mark test log ≡ true → (b || has_mark test log) ≡ true
    by true rest = refl
    by false rest = rest

-- each step of a log is one of its host
pub log_home : (start : Start) (h : ℕ) (log : List HostStep) → IsLog (machine start) h log
    → Each (λ (f : HostStep). f.host ≡ h) log
log_home start h [] right = tt
log_home start h (f ∷ log) right = (right.0.at, log_home start h log right.1)

module _ (start : Start) (es : List HostStep) (e : HostStep) (come : Comes start es e) (tx : TxId) where
  abbrev old : ℕ → List HostStep
  old = logs_of start es

  abbrev now : ℕ → List HostStep
  now = logs_of start (e ∷ es)

  abbrev h : ℕ
  h = e.host

  -- a step with a lesser stamp isn't the newest one
  before_it : (step : HostStep) (g : ℕ) → step.step.stamp < e.step.stamp → IsIn step (now g) → IsIn step (old g)
  before_it step g below =
      event_moves (machine start) e es (λ k was log. IsIn step log → IsIn step was) own (λ k log is. is) g
    where
      own : IsIn step (e ∷ old h) → IsIn step (old h)
      own (inl same) = absurd (omega (arith, below, ap (λ (f : HostStep). f.step.stamp) same))
      own (inr is) = is

  -- a decision below the newest step is one that came before
  below_decided : IsDecidedBelow now tx e.step.stamp → is_decided start old tx ≡ true
  below_decided is =
      let right = run_is_causal start (e ∷ es) come.now in
      let local = logs_of_run (machine start) (e ∷ es) come.now.run in
      let at : is.step.host ≡ is.host = each_in (λ (f : HostStep). f.host ≡ is.host) is.step (now is.host)
      (log_home start is.host (now is.host) (local.local is.host)) is.inside in
      let decides : DecidesRightly start now is.step =
      each_in (DecidesRightly start now) is.step (now is.host) (right.decisions is.host) is.inside in
      let home_is : is.host ≡ home start tx = sym at ∙ (decides tx is.marked).to in
      subst (λ k. has_mark (is_decision tx) (old k) ≡ true) home_is
      (in_mark (is_decision tx) is.step (old is.host) (before_it is.step is.host is.below is.inside) is.marked)

  -- the newest step took a commit
  taken_decided : ((other : TxId) → kind_of e.step.taken.body ≡ kind.committing other → IsDecidedBelow now other
      e.step.stamp) → kind_of e.step.taken.body ≡ kind.committing tx → is_decided start old tx ≡ true
  taken_decided rightly is = below_decided (rightly tx is)

pub commits_are_decided : CommitsAreDecided
commits_are_decided start es e tx key epoch chain at come is =
    let right = run_is_causal start (e ∷ es) come.now in
    let own : Each (CommitsRightly (logs_of start (e ∷ es))) (e ∷ logs_of start es e.host) =
    subst (Each (CommitsRightly (logs_of start (e ∷ es)))) (log_of-own (machine start) e es e.host refl)
    (right.commits e.host) in
    taken_decided start es e come tx own.0 (ap kind_of is)
