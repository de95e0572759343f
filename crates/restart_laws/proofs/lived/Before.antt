-- What rows had noted as saved before they note a later epoch is durable: of moments, and so of any part of their log,
-- since it ends with a step which is the last one of a moment, and what is durable then stays so.
use Rattle.std.proofs.Common.{◌≡◌, ◌<◌, ◌⊎◌, ◌++◌, ◌∙◌, ℕ, List, [], ◌∷◌, refl, ap, sym, subst, inl, inr}
use Rattle.run_theory.proofs.EventCases.{event_cases}
use Rattle.run_theory.proofs.Pasts.{past_cases}
use Rattle.run_theory.proofs.Runs.{log_of-own}
use Rattle.run_theory.specs.Lists.{IsIn, IsPast}
use Rattle.sig_core.specs.declared.member.Member.{Member}
use Rattle.request_laws.specs.Blocks.{rows_after}
use Rattle.world_core.specs.Start.{Start, made}
use Rattle.world_core.specs.Steps.{HostStep}
use Rattle.world_views.specs.Machine.{machine}
use Rattle.view_laws.proofs.runs.ChosenViews.{past_none}
use Rattle.view_laws.specs.Runs.{AreOfCluster}
use Rattle.moment_laws.proofs.MomentRuns.{are_moments}
use Rattle.moment_laws.proofs.MomentViews.{moment_less}
use Rattle.moment_laws.specs.Moments.{IsMoment, logs_of}
use Rattle.moment_laws.specs.Places.{ldm_of}
use Rattle.outcome_laws.proofs.order.EventsBefore.{moment_before}
use Rattle.closing_laws.proofs.settled.Cuts.{events_of, logs_are}
use Rattle.saved_laws.specs.Behind.{IsDurable, SavedBeforeIsDurable}
use Rattle.disk_laws.proofs.told_slots.Logs.{durable_along}

module _ (start : Start) (h : ℕ) (e : HostStep) (log : List HostStep) where
  -- the event behind which the log of the host is this
  record ComesIn (es : List HostStep) : Type 0 where
    newer : List HostStep
    event : HostStep
    older : List HostStep
    is : es ≡ newer ++ event ∷ older
    before : logs_of start older h ≡ log
    behind : logs_of start (event ∷ older) h ≡ e ∷ log

  one_more : (x : HostStep) (es : List HostStep) → ComesIn es → ComesIn (x ∷ es)
  one_more x es comes = record {
    newer = x ∷ comes.newer;
    event = comes.event;
    older = comes.older;
    is = ap (λ xs. x ∷ xs) comes.is;
    before = comes.before;
    behind = comes.behind;
  }

  comes_in : (es : List HostStep) → IsPast (e ∷ log) (logs_of start es h) → ComesIn es
  comes_in [] past = let none : e ∷ log ≡ [] = past_none (e ∷ log) past in absurd cc
  comes_in (x ∷ es) past =
      let rest = comes_in es in
      event_cases (machine start) x es h (λ all. IsPast (e ∷ log) all → ComesIn (x ∷ es))
      (λ at past. own at (past_cases x past) rest) (λ other past. one_more x es (rest past)) past
    where
      own : x.host ≡ h → (x ∷ logs_of start es h ≡ e ∷ log) ⊎ IsPast (e ∷ log) (logs_of start es h)
          → (IsPast (e ∷ log) (logs_of start es h) → ComesIn es) → ComesIn (x ∷ es)
      own at (inl whole) rest = record {
        newer = [];
        event = x;
        older = es;
        is = refl;
        before = cc;
        behind = log_of-own (machine start) x es h at ∙ whole;
      }
      own at (inr part) rest = one_more x es (rest part)

module _ (saved : SavedBeforeIsDurable) (start : Start) (logs : ℕ → List HostStep) (are : AreOfCluster start logs)
    (begins : start.start_epoch < start.epoch) (member : Member) (there : IsIn member (made start)) (e : HostStep)
    (log : List HostStep) (past : IsPast (e ∷ log) (logs (ldm_of start member))) where
  comes : ComesIn start (ldm_of start member) e log (events_of start logs)
  comes =
      comes_in start (ldm_of start member) e log (events_of start logs)
      (subst (λ (ls : ℕ → List HostStep). IsPast (e ∷ log) (ls (ldm_of start member))) (sym (logs_are start logs are))
      past)

  moment : IsMoment start logs (comes.event ∷ comes.older)
  moment =
      moment_before start logs comes.newer (comes.event ∷ comes.older)
      (subst (IsMoment start logs) comes.is (are_moments start logs are))

  pub before_durable : (rows_after start member log).saved < (rows_after start member (e ∷ log)).saved
      → IsDurable start logs (rows_after start member log).saved
  before_durable more =
      durable_along start (logs_of start comes.older) logs
      (moment_less start logs comes.event comes.older moment).inside (rows_after start member log).saved
      (subst (λ (l : List HostStep). IsDurable start (logs_of start comes.older) (rows_after start member l).saved)
      comes.before
      (saved start logs comes.event comes.older begins moment member there
      (subst (λ (l : List HostStep). (rows_after start member (logs_of start comes.older (ldm_of start member))).saved
      < (rows_after start member l).saved) (sym comes.behind)
      (subst (λ (l : List HostStep). (rows_after start member l).saved < (rows_after start member (e ∷ log)).saved)
      (sym comes.before) more))))
