-- One host goes on alone: where another one made no step, all that it has told is as before.
use Rattle.std.proofs.Common.{◌≡◌, ◌≢◌, ◌<◌, ◌⊎◌, inl, inr, ℕ, ◌∷◌, true, false, sym, subst}
use Rattle.std.proofs.lemmas.Bool.{cases_eq}
use Rattle.run_theory.specs.Links.{is_from}
use Rattle.run_theory.specs.Lists.{IsIn}
use Rattle.run_theory.specs.Logs.{IsLog}
use Rattle.sig_core.specs.declared.signal.Body.{Body}
use Rattle.world_core.specs.Hosts.{hosts}
use Rattle.world_core.specs.Start.{Start}
use Rattle.world_core.specs.Steps.{HostStep}
use Rattle.world_core.specs.World.{logs_at}
use Rattle.world_views.specs.Disks.{GoesAlone}
use Rattle.world_views.specs.Driven.{IsSound}
use Rattle.world_views.specs.Links.{link}
use Rattle.world_views.specs.Machine.{machine}
use Rattle.world_views.specs.Sending.{is_asked}
use Rattle.world_views.specs.World.{Whole}
use Rattle.restart_laws.specs.Told.{IsTold}
use Rattle.restart_laws.proofs.telling.Over.{TakesFrom, comes_from, none_taken, one_taken, told_over}

module _ (start : Start) (w u : Whole) (g : ℕ) (alone : GoesAlone w g u) (sound : IsSound start u) (h : ℕ) where
  -- others took of a host only what stood on its links
  pub takes : (j : ℕ) → j < hosts start → TakesFrom start h j w u
  takes j low = by (cases_eq j g)
    where
      one : (e : HostStep) → logs_at u.logs g ≡ e ∷ logs_at w.logs g → g < hosts start
          → is_from (machine start) h e ≡ true → IsIn e.step.taken (link w.links h g).signals
      one e more low from =
          let of_host = (subst (IsLog (machine start) g) more (sound.right.local g low)).0.at in
          let is = comes_from start h e from in
          subst (λ i. IsIn e.step.taken (link w.links i g).signals) is.1
          (alone.taken e more (subst (λ k. is_asked k e.step.taken ≡ false) of_host is.0))

      own : g < hosts start → (logs_at u.logs g ≡ logs_at w.logs g)
          ⊎ ((e : HostStep) × (logs_at u.logs g ≡ e ∷ logs_at w.logs g))
          → TakesFrom start h g w u
      own low (inl same) = none_taken same
      own low (inr (e, more)) = one_taken e more (one e more low)

      by : (j ≡ g) ⊎ (j ≢ g) → TakesFrom start h j w u
      by (inl same) =
          subst (λ k. TakesFrom start h k w u) (sym same) (own (subst (λ k. k < hosts start) same low) alone.own)
      by (inr apart) = none_taken (alone.others j apart)

  pub stays_told : (Q : Body → Type 0) → logs_at u.logs h ≡ logs_at w.logs h → IsTold start h Q w → IsTold start h Q u
  stays_told Q same told =
      told_over start h Q w u told takes sound.right.local (λ j x. alone.links h j x same)
