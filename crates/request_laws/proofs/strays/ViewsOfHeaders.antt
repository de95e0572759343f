-- The view of a signal that a host takes was installed before: in right logs in which the host is about to take it.
use Rattle.std.proofs.Common.{◌≡◌, ◌⊎◌, ℕ, List, ◌∷◌, subst, inl, inr}
use Rattle.frag_map.specs.Shape.{IsShape}
use Rattle.run_theory.proofs.Along.{along_signals_of_logs}
use Rattle.run_theory.proofs.Pasts.{past_cases}
use Rattle.run_theory.proofs.Runs.{logs_of_run}
use Rattle.run_theory.specs.Along.{Comes, IsKept}
use Rattle.run_theory.specs.Lists.{IsPast}
use Rattle.run_theory.specs.Runs.{IsWithin, log_of}
use Rattle.run_theory.proofs.EventCases.{event_cases}
use Rattle.sig_core.specs.declared.view.View.{View}
use Rattle.world_core.specs.Hosts.{hosts}
use Rattle.world_core.specs.Start.{NobodyStarts, Start}
use Rattle.world_core.specs.Steps.{HostStep}
use Rattle.world_views.proofs.SentFacts.{is_stamped}
use Rattle.world_views.specs.Machine.{machine}
use Rattle.view_laws.specs.Runs.{AreOfCluster, WasInstalled}
use Rattle.view_laws.proofs.runs.Headers.{AreInstalled, HasInstalled, kept, old_taken}
use Rattle.view_laws.proofs.runs.ChosenViews.{past_none, within_less}

-- there are right logs in which the host has this log, and the view was installed
pub record IsHeaded (start : Start) (h : ℕ) (log : List HostStep) (view : View) : Type 0 where
  pub old : ℕ → List HostStep
  pub are : AreOfCluster start old
  pub own : old h ≡ log
  pub was : WasInstalled start old view

module _ (start : Start) (shape : IsShape start.shape) where
  -- so it is with each step of a log
  abbrev AreHeaded : (ℕ → List HostStep) → Type 0
  AreHeaded logs =
      IsWithin (hosts start) logs → (h : ℕ) (log : List HostStep) (e : HostStep) → IsPast (e ∷ log) (logs h)
      → IsHeaded start h log e.step.taken.view

  abbrev AreBoth : (ℕ → List HostStep) → Type 0
  AreBoth logs = AreInstalled start logs × AreHeaded logs

  module _ (nobody : NobodyStarts start) (es : List HostStep) (e : HostStep)
      (come : Comes (machine start) (HasInstalled start) AreBoth es e) where
    comes : Comes (machine start) (HasInstalled start) (AreInstalled start) es e
    comes = record {
      run = come.run;
      happens = come.happens;
      all = record {
        law = come.all.law.0;
        sent_hold = come.all.sent_hold;
        closing_hold = come.all.closing_hold;
      };
      told = come.told;
    }

    now_headed : IsWithin (hosts start) (log_of (machine start) (e ∷ es)) → (h : ℕ) (log : List HostStep) (f : HostStep)
        → e ∷ log_of (machine start) es h ≡ f ∷ log → IsHeaded start h log f.step.taken.view
    now_headed within h log f is = record {
      old = log_of (machine start) es;
      are = record {
        shape = shape;
        nobody = nobody;
        right = logs_of_run (machine start) es come.run;
        within = within_less start e es within;
      };
      own = cc is;
      was =
          let same : e ≡ f = cc is in
          subst (λ (f : HostStep). WasInstalled start (log_of (machine start) es) f.step.taken.view) same
          (old_taken start nobody es e comes within);
    }

    headed_next : AreHeaded (log_of (machine start) (e ∷ es))
    headed_next within h log f =
        event_cases (machine start) e es h (λ all. IsPast (f ∷ log) all → IsHeaded start h log f.step.taken.view)
        (λ at past. own (past_cases e past)) (λ other. before)
      where
        before : IsPast (f ∷ log) (log_of (machine start) es h) → IsHeaded start h log f.step.taken.view
        before = come.all.law.1 (within_less start e es within) h log f

        own : (e ∷ log_of (machine start) es h ≡ f ∷ log) ⊎ IsPast (f ∷ log) (log_of (machine start) es h)
            → IsHeaded start h log f.step.taken.view
        own (inl is) = now_headed within h log f is
        own (inr older) = before older

  both_kept : NobodyStarts start → IsKept (machine start) (HasInstalled start) AreBoth
  both_kept nobody = record {
    start = ((kept start nobody).start, λ within h log e past. absurd (cc (past_none (e ∷ log) past)));
    step = λ es e come. ((kept start nobody).step es e (comes nobody es e come), headed_next nobody es e come);
    sends = λ es e come. (kept start nobody).sends es e (comes nobody es e come);
    closing = λ es e come. (kept start nobody).closing es e (comes nobody es e come);
    stays = λ es e x come. (kept start nobody).stays es e x (comes nobody es e come);
  }

  pub headed : (all : ℕ → List HostStep) → AreOfCluster start all → (h : ℕ) (log : List HostStep) (e : HostStep)
      → IsPast (e ∷ log) (all h) → IsHeaded start h log e.step.taken.view
  headed all are =
      (along_signals_of_logs (machine start) (is_stamped start) (HasInstalled start) AreBoth (both_kept are.nobody)
      (hosts start) all
      are.within are.right).law.1
      are.within
