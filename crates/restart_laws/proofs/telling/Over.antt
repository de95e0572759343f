-- What a host told stays so where it makes no step, and others take only what stood on its links.
use Rattle.std.proofs.Common.{◌≡◌, ◌==◌, ◌&&◌, ◌<◌, ℕ, List, ◌∷◌, Bool, true, false, not, refl, sym, subst}
use Rattle.std.proofs.Common.{if◌then◌else◌}
use Rattle.std.proofs.lemmas.Bool.{eqb-true, true≢false}
use Rattle.run_theory.specs.Links.{is_from, taken}
use Rattle.run_theory.specs.Lists.{Each, IsIn}
use Rattle.run_theory.specs.Logs.{IsLog, IsStep}
use Rattle.run_theory.proofs.Pasts.{each_from, each_in}
use Rattle.sig_core.specs.declared.signal.Body.{Body}
use Rattle.sig_core.specs.declared.signal.Signal.{Signal}
use Rattle.world_core.specs.Hosts.{hosts}
use Rattle.world_core.specs.Start.{Start}
use Rattle.world_core.specs.Steps.{HostStep}
use Rattle.world_core.specs.World.{logs_at}
use Rattle.world_views.specs.Links.{link}
use Rattle.world_views.specs.Machine.{comes_rightly, has_cut, machine}
use Rattle.world_views.specs.Right.{IsOpen}
use Rattle.world_views.specs.Sending.{is_asked}
use Rattle.world_views.specs.World.{Whole}
use Rattle.world_views.proofs.CutFacts.{uncut_before}
use Rattle.disk_laws.proofs.GoneLemmas.{running}
use Rattle.restart_laws.specs.Told.{IsTold}
use Rattle.restart_laws.proofs.telling.Facts.{IsSo}
use Rattle.restart_laws.proofs.telling.OnLinks.{IsSoOn}

-- a log is as it was, or has one step more; where that took something of host h it stood on its link
pub data TakesFrom (start : Start) (h j : ℕ) (w u : Whole) : Type 0 where
  none_taken : logs_at u.logs j ≡ logs_at w.logs j → TakesFrom start h j w u
  one_taken : (e : HostStep) → logs_at u.logs j ≡ e ∷ logs_at w.logs j
      → (is_from (machine start) h e ≡ true → IsIn e.step.taken (link w.links h j).signals)
      → TakesFrom start h j w u

-- what a step took of host h wasn't asked for, and came from it
pub comes_from : (start : Start) (h : ℕ) (e : HostStep) → is_from (machine start) h e ≡ true
    → (is_asked e.host e.step.taken ≡ false) × (e.step.taken.from.0 ≡ h)
comes_from start h e is = by (is_asked e.host e.step.taken) refl (e.step.taken.from.0 == h) refl is
  where
    by : (a : Bool) → is_asked e.host e.step.taken ≡ a → (b : Bool) → (e.step.taken.from.0 == h) ≡ b
        → (not a && b) ≡ true → (a ≡ false) × (e.step.taken.from.0 ≡ h)
    by true asked b same is = absurd (true≢false (sym is))
    by false asked true same is = (refl, eqb-true e.step.taken.from.0 h same)
    by false asked false same is = absurd (true≢false (sym is))

-- whoever takes something from a host's link still took from it before
pub was_open : (start : Start) (h j : ℕ) (log : List HostStep) (e : HostStep) → IsStep (machine start) j log e
    → is_from (machine start) h e ≡ true → IsOpen start h j log
was_open start h j log e step is =
    let from = comes_from start h e is in
    let unasked : is_asked j e.step.taken ≡ false =
    subst (λ k. is_asked k e.step.taken ≡ false) step.at from.0
    in
    record {
      runs = running start log step.runs;
      takes =
          subst (λ k. has_cut start j log k ≡ false) from.1
          (subst (λ b. comes_rightly b start j log e.step.taken) unasked step.fits.comes);
    }

-- and whoever takes from it behind a step did so before
pub open_before : (start : Start) (h j : ℕ) (w u : Whole) → TakesFrom start h j w u
    → IsLog (machine start) j (logs_at u.logs j) → IsOpen start h j (logs_at u.logs j)
    → IsOpen start h j (logs_at w.logs j)
open_before start h j w u (none_taken same) local opened = subst (IsOpen start h j) same opened
open_before start h j w u (one_taken e more stood) local opened =
    let step = (subst (IsLog (machine start) j) more local).0 in
    let now = subst (IsOpen start h j) more opened in
    record {
      runs = running start (logs_at w.logs j) step.runs;
      takes = uncut_before start j (logs_at w.logs j) e h now.takes;
    }

module _ (start : Start) (h : ℕ) (Q : Body → Type 0) (w u : Whole) (told : IsTold start h Q w) where
  module _ (j : ℕ) (low : j < hosts start) (takes : TakesFrom start h j w u)
      (local : IsLog (machine start) j (logs_at u.logs j))
    where
      pub taken_over : Each (IsSo Q) (taken (machine start) h (logs_at u.logs j))
      taken_over = by takes
        where
          AllTaken : List HostStep → Type 0
          AllTaken log = Each (IsSo Q) (taken (machine start) h log)

          by : TakesFrom start h j w u → AllTaken (logs_at u.logs j)
          by (none_taken same) = subst AllTaken (sym same) (told.taken j low)
          by (one_taken e more stood) = subst AllTaken (sym more) (whether (is_from (machine start) h e) refl)
            where
              whether : (b : Bool) → is_from (machine start) h e ≡ b
                  → Each (IsSo Q) (if b then (machine start).signal e ∷ taken (machine start) h (logs_at w.logs j)
                  else taken (machine start) h (logs_at w.logs j))
              whether true is =
                  let step = (subst (IsLog (machine start) j) more local).0 in (
                    each_in (IsSoOn Q) e.step.taken (link w.links h j).signals
                        (told.in_transit j low (was_open start h j (logs_at w.logs j) e step is)) (stood is),
                    told.taken j low,
                  )
              whether false is = told.taken j low

      pub transit_over : ((x : Signal) → IsIn x (link u.links h j).signals → IsIn x (link w.links h j).signals)
          → IsOpen start h j (logs_at u.logs j) → Each (IsSoOn Q) (link u.links h j).signals
      transit_over stood opened =
          each_from (IsSoOn Q) (link u.links h j).signals
          (λ x there.
          each_in (IsSoOn Q) x (link w.links h j).signals
          (told.in_transit j low (open_before start h j w u takes local opened)) (stood x there))

  pub told_over : ((j : ℕ) → j < hosts start → TakesFrom start h j w u)
      → ((j : ℕ) → j < hosts start → IsLog (machine start) j (logs_at u.logs j))
      → ((j : ℕ) (x : Signal) → IsIn x (link u.links h j).signals → IsIn x (link w.links h j).signals)
      → IsTold start h Q u
  told_over takes locals stood = record {
    taken = λ j low. taken_over j low (takes j low) (locals j low);
    in_transit = λ j low opened. transit_over j low (takes j low) (locals j low) (stood j) opened;
  }
