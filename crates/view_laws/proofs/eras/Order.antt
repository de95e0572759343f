-- Right logs run in the order of views, and each event comes in the greatest view that there is by then.
use Rattle.std.proofs.Common.{◌≡◌, ◌≤◌, ◌⊎◌, ℕ, List, [], ◌∷◌, ◌++◌, sym, ap, subst, ◌∙◌, arith, inl, inr}
use Rattle.frag_map.specs.Layout.{first_view}
use Rattle.run_theory.proofs.Pasts.{past_cases}
use Rattle.run_theory.specs.Lists.{Each, IsPast}
use Rattle.run_theory.specs.Machine.{Machine}
use Rattle.run_theory.specs.Runs.{log_of}
use Rattle.sig_core.specs.declared.view.View.{View}
use Rattle.world_core.specs.Hosts.{hosts}
use Rattle.world_core.specs.Start.{NobodyStarts, Start}
use Rattle.world_core.specs.Steps.{Addressed, HostStep}
use Rattle.view_laws.specs.Order.{ActorsHaveTheGreatestView, RightLogsRunInViews, era, sound_machine}
use Rattle.run_theory.specs.Ranks.{IsByRank, IsPlaced, in_order}
use Rattle.view_laws.specs.Runs.{view_after}
use Rattle.view_laws.proofs.eras.Causal.{era_going, era_is_causal, view_below}
use Rattle.view_laws.proofs.eras.Rises.{view_rises}
use Rattle.view_laws.proofs.eras.SoundLogs.{sound_logs, sound_stamped}
use Rattle.run_theory.proofs.Ranking.{ranked_run}
use Rattle.run_theory.proofs.EventCases.{event_cases}
use Rattle.view_laws.proofs.runs.Step.{started_view}
use Rattle.view_laws.proofs.runs.ChosenViews.{past_none}

pub run_in_views : RightLogsRunInViews
run_in_views start logs are =
    let ran =
    ranked_run (sound_machine start) (era start) (era_is_causal start are.nobody) (sound_stamped start) (hosts start)
    logs
    are.within (sound_logs start are.nobody logs are.right) in
    record { run = ran.0; has = ran.1; placed = ran.2 }

module _ (start : Start) where
  abbrev n : Machine HostStep Addressed
  n = sound_machine start

  abbrev number_after : ℕ → List HostStep → ℕ
  number_after h log = (view_after start h log).number

  -- no view is below the first one
  from_first : NobodyStarts start → (h : ℕ) (log : List HostStep) → number_after h [] ≤ number_after h log
  from_first nobody h [] = omega arith
  from_first nobody h (e ∷ log) =
      let before = from_first nobody h log in
      let rises = view_rises start nobody h log e in
      omega (arith, before, rises)

  abbrev IsInOrder : List (ℕ × HostStep) → Type 0
  IsInOrder ps = IsByRank n (era start) ps

  order_behind : (newer ps : List (ℕ × HostStep)) → IsInOrder (newer ++ ps) → IsInOrder ps
  order_behind [] ps o = o
  order_behind (q ∷ newer) ps o = order_behind newer ps o.1

  -- where no event has a greater number, no host stands in a view of one
  module _ (k h : ℕ) (first : number_after h [] ≤ k) where
    newest_low : (e : HostStep) (log : List HostStep) (at : ℕ) → e.host ≡ h → at ≡ era start e.host (e ∷ log) → at ≤ k
        → number_after h (e ∷ log) ≤ k
    newest_low e log at same is low =
        let below = view_below start h log e in
        let one : at ≡ era start h (e ∷ log) = subst (λ i. at ≡ era start i (e ∷ log)) same is in
        omega (arith, below, one, low)

    stands_low : (ps : List (ℕ × HostStep)) → IsInOrder ps → Each (λ q. q.0 ≤ k) ps → (log : List HostStep)
        → IsPast log (log_of n (in_order ps) h) → number_after h log ≤ k
    stands_low [] o low log past = subst (λ log. number_after h log ≤ k) (sym (past_none log past)) first
    stands_low (q ∷ ps) o low log past =
        let before = stands_low ps o.1 low.1 log in
        event_cases n q.1 (in_order ps) h (λ all. IsPast log all → number_after h log ≤ k)
        (λ same past. own same (past_cases q.1 past) before) (λ other. before) past
      where
        own : q.1.host ≡ h → (q.1 ∷ log_of n (in_order ps) h ≡ log) ⊎ IsPast log (log_of n (in_order ps) h)
            → (IsPast log (log_of n (in_order ps) h) → number_after h log ≤ k) → number_after h log ≤ k
        own same (inl is) before =
            subst (λ log. number_after h log ≤ k) is
            (newest_low q.1 (log_of n (in_order ps) h) q.0 same
            (subst (λ i. q.0 ≡ era start q.1.host (q.1 ∷ log_of n (in_order ps) i)) same o.0.is) low.0)
        own same (inr older) before = before older

pub act_in_greatest : ActorsHaveTheGreatestView
act_in_greatest start logs are newer older k e is = record {
  greatest = λ h log past. stands_low start k h (first h) ((k, e) ∷ older) behind (omega arith, placed.rises) log past;
  stands = λ goes. sym (placed.is ∙ era_going start e.host before e goes);
}
  where
    behind : IsByRank (sound_machine start) (era start) ((k, e) ∷ older)
    behind =
        order_behind start newer ((k, e) ∷ older)
        (subst (IsByRank (sound_machine start) (era start)) is (run_in_views start logs are).placed)

    placed : IsPlaced (sound_machine start) (era start) (k, e) older
    placed = behind.0

    before : List HostStep
    before = log_of (sound_machine start) (in_order older) e.host

    begins : (h : ℕ) → number_after start h [] ≡ (first_view start.shape.nodes).number
    begins h = ap (λ (v : View). v.number) (started_view start are.nobody h)

    first : (h : ℕ) → number_after start h [] ≤ k
    first h =
        let own = begins e.host in
        let one = begins h in
        let rises = from_first start are.nobody e.host (e ∷ before) in
        let below = view_below start e.host before e in
        omega (arith, own, one, rises, below, placed.is)
