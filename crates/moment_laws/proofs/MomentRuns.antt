-- Right logs, in the order of views, are moments.
use Rattle.std.proofs.Common.{◌≡◌, ◌≤◌, ℕ, List, [], ◌∷◌, ◌++◌, append_assoc, refl, sym, ap, subst, ◌∙◌, inl, inr}
use Rattle.std.proofs.Common.{arith}
use Rattle.std.proofs.Math.Path.{fun_ext}
use Rattle.run_theory.proofs.Pasts.{past_nil, past_self}
use Rattle.run_theory.proofs.Runs.{log_of-past}
use Rattle.run_theory.specs.Lists.{IsPast}
use Rattle.sig_core.specs.declared.view.View.{View}
use Rattle.world_core.specs.Hosts.{hosts}
use Rattle.world_core.specs.Start.{Start}
use Rattle.world_core.specs.Steps.{HostStep}
use Rattle.view_laws.specs.Order.{ActsInGreatest, by_views, era, sound_machine}
use Rattle.run_theory.specs.Ranks.{IsByRank, in_order}
use Rattle.view_laws.specs.Runs.{AreOfCluster, view_after}
use Rattle.view_laws.proofs.eras.Order.{act_in_greatest, run_in_views}
use Rattle.view_laws.proofs.runs.Step.{started_view}
use Rattle.moment_laws.specs.Found.{LogsAreMoments}
use Rattle.moment_laws.specs.Moments.{IsInOrder, IsMoment, current, logs_of}
use Rattle.moment_laws.proofs.MomentViews.{IsSome, current_is, current_number}

module _ (start : Start) (logs : ℕ → List HostStep) (are : AreOfCluster start logs) where
  -- each event comes in no lesser view than that which is current before it
  current_low : (newer older : List (ℕ × HostStep)) (k : ℕ) (e : HostStep)
      → by_views start logs ≡ newer ++ (k, e) ∷ older → current_number start (logs_of start (in_order older)) ≤ k
  current_low newer older k e is =
      by (current start (logs_of start (in_order older))) (current_is start (logs_of start (in_order older)) are.nobody)
    where
      acts : ActsInGreatest start k e (in_order older)
      acts = act_in_greatest start logs are newer older k e is

      by : (view : View) → IsSome start (logs_of start (in_order older)) (hosts start) view → view.number ≤ k
      by view (inl first) =
          let low : (view_after start 0 []).number ≤ k =
          acts.greatest 0 [] (past_nil (logs_of start (e ∷ in_order older) 0)) in
          let same : view.number ≡ (view_after start 0 []).number =
          ap (λ (v : View). v.number) (first ∙ sym (started_view start are.nobody 0)) in
          omega (arith, low, same)
      by view (inr one) =
          let low : (view_after start one.host (logs_of start (in_order older) one.host)).number ≤ k =
          acts.greatest one.host (logs_of start (in_order older) one.host)
          (log_of-past (sound_machine start) e (in_order older) one.host) in
          let same : view.number ≡ (view_after start one.host (logs_of start (in_order older) one.host)).number =
          ap (λ (v : View). v.number) one.is in
          omega (arith, low, same)

  orderly : (newer ps : List (ℕ × HostStep)) → by_views start logs ≡ newer ++ ps
      → IsByRank (sound_machine start) (era start) ps → IsInOrder start (in_order ps)
  orderly newer [] is placed = tt
  orderly newer (q ∷ ps) is placed =
      let low = current_low newer ps q.0 q.1 is in
      let at : q.0 ≡ era start q.1.host (q.1 ∷ logs_of start (in_order ps) q.1.host) = placed.0.is in (
        omega (arith, low, at),
        orderly (newer ++ q ∷ []) ps (is ∙ sym (append_assoc newer (q ∷ []) ps)) placed.1,
      )

  -- at the end of that run they are its logs
  pub logs_in_views : logs_of start (in_order (by_views start logs)) ≡ logs
  logs_in_views = fun_ext (λ h. (run_in_views start logs are).has h)

  pub are_moments : IsMoment start logs (in_order (by_views start logs))
  are_moments =
      let ran = run_in_views start logs are in
      record {
        cluster = are;
        run = ran.run;
        inside = λ h. subst (IsPast (logs_of start (in_order (by_views start logs)) h)) (ran.has h) (past_self _);
        ordered = orderly [] (by_views start logs) refl ran.placed;
      }

pub have_moments : LogsAreMoments
have_moments start logs are = record {
  events = in_order (by_views start logs);
  is = are_moments start logs are;
  whole = (run_in_views start logs are).has;
}
