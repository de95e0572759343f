-- Events up to a step of a host, and what was decided up to it.
use Rattle.std.proofs.Common.{◌≡◌, ◌⊎◌, ◌++◌, ℕ, List, [], ◌∷◌, refl, sym, ap, subst, inl, inr}
use Rattle.run_theory.proofs.Pasts.{past_more, past_self, past_trans}
use Rattle.run_theory.proofs.Runs.{log_of-own}
use Rattle.run_theory.specs.Lists.{IsIn, IsPast}
use Rattle.run_theory.proofs.EventCases.{event_cases, event_keeps}
use Rattle.sig_core.specs.declared.entry.Entry.{Entry}
use Rattle.sig_core.specs.declared.mark.Mark.{Mark}
use Rattle.sig_core.specs.declared.mark.Mark.TheVariants.{Decided}
use Rattle.world_core.specs.Entries.{entries_in, entry_of}
use Rattle.world_core.specs.Start.{Start}
use Rattle.world_core.specs.Steps.{HostStep}
use Rattle.world_views.specs.Machine.{machine}
use Rattle.view_laws.specs.Order.{decisions}
use Rattle.moment_laws.specs.Moments.{IsMoment, logs_of}
use Rattle.moment_laws.proofs.MomentViews.{moment_less}
use Rattle.outcome_laws.specs.Decided.{IsMarked}

-- the entries of a step stand in front of those before
pub entries_past : (h stamp : ℕ) (log : List HostStep) (marks : List Mark) (before : List Entry)
    → IsPast before (entries_in h stamp log marks before)
entries_past h stamp log [] before = past_self before
entries_past h stamp log (Decided tx epoch ∷ marks) before =
    past_trans (past_more (entry_of h stamp log tx epoch) (past_self before))
    (entries_past h stamp log marks (entry_of h stamp log tx epoch ∷ before))
entries_past h stamp log (mark ∷ marks) before = entries_past h stamp log marks before

-- an entry of these is of a mark, or was there before
entry_marked : (h stamp : ℕ) (log : List HostStep) (a : Entry) (marks : List Mark) (before : List Entry)
    → IsIn a (entries_in h stamp log marks before) → IsIn (Decided a.tx a.epoch) marks ⊎ IsIn a before
entry_marked h stamp log a [] before there = inr there
entry_marked h stamp log a (Decided tx epoch ∷ marks) before there =
    by (entry_marked h stamp log a marks (entry_of h stamp log tx epoch ∷ before) there)
  where
    by : IsIn (Decided a.tx a.epoch) marks ⊎ IsIn a (entry_of h stamp log tx epoch ∷ before)
        → IsIn (Decided a.tx a.epoch) (Decided tx epoch ∷ marks) ⊎ IsIn a before
    by (inl marked) = inl (inr marked)
    by (inr (inl same)) = inl (inl (ap (λ (b : Entry). Decided b.tx b.epoch) same))
    by (inr (inr older)) = inr older
entry_marked h stamp log a (mark ∷ marks) before there = by (entry_marked h stamp log a marks before there)
  where
    by : IsIn (Decided a.tx a.epoch) marks ⊎ IsIn a before → IsIn (Decided a.tx a.epoch) (mark ∷ marks) ⊎ IsIn a before
    by (inl marked) = inl (inr marked)
    by (inr older) = inr older

module _ (start : Start) where
  pub decisions_past : (newer es : List HostStep) → IsPast (decisions start es) (decisions start (newer ++ es))
  decisions_past [] es = past_self (decisions start es)
  decisions_past (e ∷ newer) es =
      past_trans (decisions_past newer es)
      (entries_past e.host e.step.stamp (e ∷ logs_of start (newer ++ es) e.host) e.step.marks
      (decisions start (newer ++ es)))

  -- a step of some host decided it
  pub record IsDecidedThere (a : Entry) (logs : ℕ → List HostStep) : Type 0 where
    pub host : ℕ
    pub is : IsMarked (Decided a.tx a.epoch) (logs host)

  pub entry_decided : (a : Entry) (es : List HostStep) → IsIn a (decisions start es)
      → IsDecidedThere a (logs_of start es)
  entry_decided a [] there = absurd there
  entry_decided a (e ∷ es) there =
      by
      (entry_marked e.host e.step.stamp (e ∷ logs_of start es e.host) a e.step.marks (decisions start es) there)
      (entry_decided a es)
    where
      more : IsDecidedThere a (logs_of start es) → IsDecidedThere a (logs_of start (e ∷ es))
      more older = record {
        host = older.host;
        is = event_keeps (machine start) e es (λ h. IsMarked (Decided a.tx a.epoch)) (λ was. inr was) older.host
            older.is;
      }

      by : IsIn (Decided a.tx a.epoch) e.step.marks ⊎ IsIn a (decisions start es)
          → (IsIn a (decisions start es) → IsDecidedThere a (logs_of start es))
          → IsDecidedThere a (logs_of start (e ∷ es))
      by (inl marked) older = record {
        host = e.host;
        is = subst (IsMarked (Decided a.tx a.epoch)) (sym (log_of-own (machine start) e es e.host refl)) (inl marked);
      }
      by (inr there) older = more (older there)

  -- the events up to a step of a host's log
  pub record IsUpTo (h : ℕ) (step : HostStep) (log : List HostStep) (es : List HostStep) : Type 0 where
    pub newer : List HostStep
    pub before : List HostStep
    pub is : es ≡ newer ++ step ∷ before
    pub older : logs_of start before h ≡ log

  nothing_split : (step : HostStep) (newer log : List HostStep) → [] ≡ newer ++ step ∷ log → ⊥
  nothing_split step [] log is = absurd cc
  nothing_split step (e ∷ newer) log is = absurd cc

  pub events_up_to : (h : ℕ) (step : HostStep) (log newer es : List HostStep)
      → logs_of start es h ≡ newer ++ step ∷ log → IsUpTo h step log es
  events_up_to h step log newer [] is = absurd (nothing_split step newer log is)
  events_up_to h step log newer (e ∷ es) is =
      event_cases (machine start) e es h (λ all. all ≡ newer ++ step ∷ log → IsUpTo h step log (e ∷ es))
      (λ at is. own newer is (λ newer is. events_up_to h step log newer es is))
      (λ other is. more (events_up_to h step log newer es is)) is
    where
      more : IsUpTo h step log es → IsUpTo h step log (e ∷ es)
      more up = record {
        newer = e ∷ up.newer;
        before = up.before;
        is = ap (λ es. e ∷ es) up.is;
        older = up.older;
      }

      own : (newer : List HostStep) → e ∷ logs_of start es h ≡ newer ++ step ∷ log
          → ((newer : List HostStep) → logs_of start es h ≡ newer ++ step ∷ log → IsUpTo h step log es)
          → IsUpTo h step log (e ∷ es)
      own [] is rest =
          let first : e ≡ step = cc in
          let same : logs_of start es h ≡ log = cc in
          record { newer = []; before = es; is = ap (λ (f : HostStep). f ∷ es) first; older = same }
      own (f ∷ newer) is rest = let same : logs_of start es h ≡ newer ++ step ∷ log = cc in more (rest newer same)

  -- a moment before
  pub moment_before : (all : ℕ → List HostStep) (newer es : List HostStep) → IsMoment start all (newer ++ es)
      → IsMoment start all es
  moment_before all [] es moment = moment
  moment_before all (e ∷ newer) es moment = moment_before all newer es (moment_less start all e (newer ++ es) moment)
