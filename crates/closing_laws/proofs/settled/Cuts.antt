-- A cut of the cluster's logs is a moment of its own run, with all that comes later in the greater one; and each part
-- of a host's log is that of some moment.
use Rattle.std.proofs.Common.{◌≡◌, ◌⊎◌, ◌∙◌, ◌++◌, ℕ, List, [], ◌∷◌, refl, sym, ap, inl, inr}
use Rattle.std.proofs.Math.Path.{fun_ext}
use Rattle.run_theory.proofs.Pasts.{past_cases, past_self, past_trans}
use Rattle.run_theory.proofs.Runs.{log_of-own, log_of-past}
use Rattle.run_theory.specs.Cuts.{IsCut}
use Rattle.run_theory.specs.Lists.{IsIn, IsPast}
use Rattle.run_theory.specs.Ranks.{in_order}
use Rattle.run_theory.proofs.EventCases.{event_cases}
use Rattle.sig_core.specs.declared.mark.Mark.{Mark}
use Rattle.world_core.specs.Start.{Start}
use Rattle.world_core.specs.Steps.{HostStep}
use Rattle.world_views.specs.Machine.{machine}
use Rattle.view_laws.proofs.runs.ChosenViews.{past_none}
use Rattle.view_laws.proofs.eras.Order.{run_in_views}
use Rattle.view_laws.specs.Order.{by_views}
use Rattle.view_laws.specs.Runs.{AreOfCluster}
use Rattle.moment_laws.proofs.MomentRuns.{are_moments}
use Rattle.moment_laws.proofs.MomentViews.{moment_less}
use Rattle.moment_laws.specs.Moments.{IsMoment, logs_of}
use Rattle.outcome_laws.specs.Decided.{IsMarked}

-- all events of these logs, in the order of views
abbrev pub events_of : Start → (ℕ → List HostStep) → List HostStep
events_of start logs = in_order (by_views start logs)

pub logs_are : (start : Start) (logs : ℕ → List HostStep) → AreOfCluster start logs
    → logs_of start (events_of start logs) ≡ logs
logs_are start logs are = fun_ext (λ h. (run_in_views start logs are).has h)

pub cut_moment : (start : Start) (small large : ℕ → List HostStep) → AreOfCluster start small
    → AreOfCluster start large → IsCut small large → IsMoment start large (events_of start small)
cut_moment start small large less more cut =
    let moment = are_moments start small less in
    record {
      cluster = more;
      run = moment.run;
      inside = λ h. past_trans (moment.inside h) (cut h);
      ordered = moment.ordered;
    }

-- what is so at a moment, and stays so behind each event, is so at all later moments; what was so before each event at
-- which it is so, was so at all earlier ones
module _ (start : Start) (all : ℕ → List HostStep) (P : List HostStep → Type 0) where
  pub goes_on : ((e : HostStep) (es : List HostStep) → IsMoment start all (e ∷ es) → P es → P (e ∷ es))
      → (newer es : List HostStep) → IsMoment start all (newer ++ es) → P es → P (newer ++ es)
  goes_on step [] es moment is = is
  goes_on step (e ∷ newer) es moment is =
      step e (newer ++ es) moment (goes_on step newer es (moment_less start all e (newer ++ es) moment) is)

  pub goes_back : ((e : HostStep) (es : List HostStep) → IsMoment start all (e ∷ es) → P (e ∷ es) → P es)
      → (newer es : List HostStep) → IsMoment start all (newer ++ es) → P (newer ++ es) → P es
  goes_back step [] es moment is = is
  goes_back step (e ∷ newer) es moment is =
      goes_back step newer es (moment_less start all e (newer ++ es) moment) (step e (newer ++ es) moment is)

module _ (start : Start) where
  -- a moment at which the log of the host is this
  pub record HasLogAt (h : ℕ) (log : List HostStep) (es : List HostStep) : Type 0 where
    pub newer : List HostStep
    pub older : List HostStep
    pub is : es ≡ newer ++ older
    pub log_is : logs_of start older h ≡ log

  one_more : (h : ℕ) (log : List HostStep) (e : HostStep) (es : List HostStep) → HasLogAt h log es
      → HasLogAt h log (e ∷ es)
  one_more h log e es has = record {
    newer = e ∷ has.newer;
    older = has.older;
    is = ap (λ xs. e ∷ xs) has.is;
    log_is = has.log_is;
  }

  pub has_log : (h : ℕ) (log es : List HostStep) → IsPast log (logs_of start es h) → HasLogAt h log es
  has_log h log [] past = record { newer = []; older = []; is = refl; log_is = sym (past_none log past) }
  has_log h log (e ∷ es) past =
      let rest = has_log h log es in
      event_cases (machine start) e es h (λ all. IsPast log all → HasLogAt h log (e ∷ es))
      (λ at past. own at (past_cases e past) rest) (λ other past. one_more h log e es (rest past)) past
    where
      own : (e.host ≡ h) → (e ∷ logs_of start es h ≡ log) ⊎ IsPast log (logs_of start es h)
          → (IsPast log (logs_of start es h) → HasLogAt h log es) → HasLogAt h log (e ∷ es)
      own at (inl whole) rest =
          record { newer = []; older = e ∷ es; is = refl; log_is = log_of-own (machine start) e es h at ∙ whole }
      own at (inr part) rest = one_more h log e es (rest part)

  -- the event at which a host has made a mark
  pub record MarksAt (h : ℕ) (mark : Mark) (es : List HostStep) : Type 0 where
    pub newer : List HostStep
    pub event : HostStep
    pub older : List HostStep
    pub is : es ≡ newer ++ event ∷ older
    pub at : event.host ≡ h
    pub there : IsIn mark event.step.marks

  pub marks_at : (h : ℕ) (mark : Mark) (es : List HostStep) → IsMarked mark (logs_of start es h) → MarksAt h mark es
  marks_at h mark [] is = absurd is
  marks_at h mark (e ∷ es) is =
      let rest = marks_at h mark es in
      event_cases (machine start) e es h (λ log. IsMarked mark log → MarksAt h mark (e ∷ es))
      (λ at is. own at is rest) (λ other is. more (rest is)) is
    where
      more : MarksAt h mark es → MarksAt h mark (e ∷ es)
      more has = record {
        newer = e ∷ has.newer;
        event = has.event;
        older = has.older;
        is = ap (λ xs. e ∷ xs) has.is;
        at = has.at;
        there = has.there;
      }

      own : e.host ≡ h → IsMarked mark (e ∷ logs_of start es h)
          → (IsMarked mark (logs_of start es h) → MarksAt h mark es) → MarksAt h mark (e ∷ es)
      own at (inl now) rest =
          record { newer = []; event = e; older = es; is = refl; at = at; there = now }
      own at (inr old) rest = more (rest old)

  -- the log of a host up to a moment is a part of that at each later one
  pub log_past : (h : ℕ) (newer es : List HostStep) → IsPast (logs_of start es h) (logs_of start (newer ++ es) h)
  log_past h [] es = past_self (logs_of start es h)
  log_past h (e ∷ newer) es = past_trans (log_past h newer es) (log_of-past (machine start) e (newer ++ es) h)
