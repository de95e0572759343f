-- A host made a step of which its disk kept nothing, and stopped then: it has told only what was so before that step.
use Rattle.std.proofs.Common.{◌≡◌, ◌≢◌, ◌⊎◌, inl, inr, ◌++◌, ◌<◌, ℕ, List, [], ◌∷◌, true, false, sym, ap, subst, ◌∙◌}
use Rattle.std.proofs.Common.{if◌then◌else◌}
use Rattle.std.proofs.lemmas.Bool.{cases_eq, true≢false}
use Rattle.std.specs.Prelude.{drop}
use Rattle.run_theory.specs.Links.{sent, taken}
use Rattle.run_theory.specs.Lists.{Each}
use Rattle.run_theory.proofs.Pasts.{each_append}
use Rattle.sig_core.specs.declared.outcome.StopCause.TheVariants.{Disk}
use Rattle.sig_core.specs.declared.reply.ApiReply.{ApiReply}
use Rattle.sig_core.specs.declared.signal.Body.{Body}
use Rattle.world_core.specs.Hosts.{hosts}
use Rattle.world_core.specs.Start.{Start}
use Rattle.world_core.specs.Steps.{HostStep}
use Rattle.world_core.specs.World.{logs_at}
use Rattle.world_views.specs.Links.{LinkState, link, without}
use Rattle.world_views.specs.Machine.{has_stopped, machine}
use Rattle.world_views.specs.Right.{IsOpen, IsRight, on_link}
use Rattle.world_views.specs.World.{Whole}
use Rattle.world_views.proofs.LogFacts.{held_running}
use Rattle.restart_laws.specs.Told.{IsTold}
use Rattle.restart_laws.proofs.telling.Facts.{IsSo, TellsByLog, sent_before}
use Rattle.restart_laws.proofs.telling.OnLinks.{IsSoOn, left_each}
use Rattle.restart_laws.proofs.telling.Over.{TakesFrom, taken_over}
use Rattle.restart_laws.proofs.telling.Stops.{IsLeft, ended, is_closed, link_own, logs_there, stays_so, stop}
use Rattle.restart_laws.proofs.telling.Stops.{stop_other, stop_own, stop_takes_none}
use Rattle.restart_laws.proofs.telling.Whole.{all_told}

module _ (start : Start) (h : ℕ) (Tells : List HostStep → Body → Type 0) (tells : TellsByLog start h Tells)
    (w u : Whole) (given had : List ApiReply) (before : IsRight start given w) (right : IsRight start had u)
    (e : HostStep) (more : logs_at u.logs h ≡ e ∷ logs_at w.logs h)
    (runs : has_stopped (logs_at u.logs h) ≡ false)
    (takes : (j : ℕ) → j < hosts start → TakesFrom start h j w u) (count : ℕ)
  where
    abbrev older : List HostStep
    older = logs_at w.logs h

    abbrev Q : Body → Type 0
    Q = Tells older

    abbrev now : Whole
    now = ended u h count

    own : logs_at now.logs h ≡ stop u h count ∷ logs_at u.logs h
    own = stop_own u h count (logs_there start had u right h count tells.low)

    -- what was taken of it before it stopped
    taken_so : (j : ℕ) → j < hosts start → Each (IsSo Q) (taken (machine start) h (logs_at now.logs j))
    taken_so j low = by (cases_eq j h)
      where
        was : Each (IsSo Q) (taken (machine start) h (logs_at u.logs j))
        was =
            taken_over start h Q w u (all_told start h Tells tells given w before) j low (takes j low)
            (right.local j low)

        stopped : Each (IsSo Q) (taken (machine start) h (stop u h count ∷ logs_at u.logs j))
        stopped =
            subst
            (λ b. Each (IsSo Q) (if b then (machine start).signal (stop u h count) ∷ taken (machine start) h
            (logs_at u.logs j)
            else taken (machine start) h (logs_at u.logs j)))
            (sym (stop_takes_none u h count start h)) was

        by : (j ≡ h) ⊎ (j ≢ h) → Each (IsSo Q) (taken (machine start) h (logs_at now.logs j))
        by (inl same) =
            subst (λ log. Each (IsSo Q) (taken (machine start) h log))
            (ap (λ k. stop u h count ∷ logs_at u.logs k) same ∙ sym own ∙ ap (logs_at now.logs) (sym same)) stopped
        by (inr apart) =
            subst (λ log. Each (IsSo Q) (taken (machine start) h log)) (sym (stop_other u h count j apart)) was

    module _ (j : ℕ) (low : j < hosts start) (opened : IsOpen start h j (logs_at now.logs j)) where
      abbrev l : LinkState
      l = link u.links h j

      apart : j ≢ h
      apart same =
          let stops : has_stopped (logs_at now.logs j) ≡ true =
          ap (λ k. has_stopped (logs_at now.logs k)) same ∙ ap has_stopped own in
          true≢false (sym stops ∙ opened.runs)

      was_open : IsOpen start h j (logs_at u.logs j)
      was_open = subst (IsOpen start h j) (stop_other u h count j apart) opened

      held : on_link j l ++ taken (machine start) h (logs_at u.logs j) ≡ sent (machine start) h j (e ∷ older)
      held =
          held_running start h j (logs_at u.logs h) _ runs ((right.linked h j tells.low low).held was_open)
          ∙ ap (sent (machine start) h j) more

      left : Each (IsSoOn Q) (without 1 l).signals
      left =
          left_each Q j l (taken (machine start) h (logs_at u.logs j))
          (subst (λ xs. Each (IsSo Q) (drop 1 xs)) (sym held) (sent_before start h Tells tells j e older))

      transit_so : Each (IsSoOn Q) (link now.links h j).signals
      transit_so = by (link_own start had u right h count tells.low j low)
        where
          by : IsLeft count l (link now.links h j) → Each (IsSoOn Q) (link now.links h j).signals
          by (stays_so same) = subst (λ (m : LinkState). Each (IsSoOn Q) m.signals) (sym same) left
          by (is_closed signal says same) =
              subst (λ (m : LinkState). Each (IsSoOn Q) m.signals) (sym same)
              (each_append (IsSoOn Q) (without 1 l).signals (signal ∷ []) left
              (subst Q (sym says) (tells.closings older (Disk count)), tt))

    pub last_told : IsTold start h Q now
    last_told = record { taken = taken_so; in_transit = transit_so }
