-- Signals of the current view that were true stay so, where the members and the president go on rightly.
use Rattle.std.proofs.Common.{◌≡◌, ◌≤◌, ◌⊎◌, ℕ, List, sym, ◌∙◌, subst, inl, inr, arith}
use Rattle.run_theory.specs.Lists.{Each}
use Rattle.run_theory.proofs.Pasts.{each_map}
use Rattle.sig_core.specs.declared.member.Member.{Member}
use Rattle.sig_core.specs.declared.signal.Body.{Body}
use Rattle.sig_core.specs.declared.signal.Body.TheVariants.{Epoch}
use Rattle.sig_core.specs.declared.signal.Signal.{Signal}
use Rattle.sig_core.specs.declared.signal.epoch.EpochSignal.TheVariants.{GcpCommit, GcpNodeFinish, GcpOrd, GcpPrepare}
use Rattle.sig_core.specs.declared.signal.epoch.EpochSignal.TheVariants.{GcpPrepareConf, GcpStateConf}
use Rattle.gcp_master.specs.declared.phase.Phase.{Phase}
use Rattle.gcp_master.specs.declared.phase.Phase.TheVariants.{Unordered, Gathering}
use Rattle.world_core.specs.Start.{Start}
use Rattle.world_core.specs.Steps.{Addressed, HostStep}
use Rattle.epoch_laws.specs.Alike.{EachFull}
use Rattle.epoch_laws.specs.Masters.{Commits, HasPrepared, IsSilent, Prepares}
use Rattle.epoch_laws.specs.Members.{IsFirst, IsPresident, IsStanding, epochs_of, master_of}
use Rattle.moment_laws.specs.Moments.{current}
use Rattle.epoch_laws.specs.Told.{IsAllSilent, IsAsTold, IsOrdered, IsTrue, IsTrueOf, IsTrueState}
use Rattle.epoch_laws.proofs.DihMoves.{Stays}

-- a master has ordered something, or not
silent_or : (phase : Phase) → IsSilent phase ⊎ (IsSilent phase → ⊥)
silent_or Unordered = inl tt
silent_or (Gathering known) = inl tt
silent_or _ = inr (λ silent. silent)

-- How members and president go on in one view: what was ordered is under way, or all are beyond it; nobody's epoch
-- falls;
-- who has prepared keeps that, or goes on; and where nothing was ordered by now, each is where it was.
pub record GoOn (start : Start) (logs now : ℕ → List HostStep) : Type 0 where
  pub full : (current start logs).full ≡ (current start now).full
  pub number : (current start logs).number ≡ (current start now).number
  pub stands : (p : Member) → IsStanding start logs p → IsStanding start now p
  pub speaks : (p : Member) → IsPresident start logs p → IsStanding start logs p
      → (IsSilent (master_of start logs p).phase → ⊥) → IsSilent (master_of start now p).phase → ⊥
  pub orders : (p : Member) → IsPresident start logs p → IsStanding start logs p → (epoch next : ℕ)
      → Prepares epoch next (master_of start logs p).phase ⊎ Commits epoch next (master_of start logs p).phase
      → (Prepares epoch next (master_of start now p).phase ⊎ Commits epoch next (master_of start now p).phase)
      ⊎ EachFull start now (λ s. next ≤ s.current)
  pub commits : (p : Member) → IsPresident start logs p → IsStanding start logs p → (epoch next : ℕ)
      → Commits epoch next (master_of start logs p).phase
      → Commits epoch next (master_of start now p).phase ⊎ EachFull start now (λ s. next ≤ s.current)
  pub rises : (member : Member) → (epochs_of start logs member).current ≤ (epochs_of start now member).current
  pub prepared : (member : Member) (epoch : ℕ) → HasPrepared epoch (epochs_of start logs member)
      → HasPrepared epoch (epochs_of start now member)
  pub told : IsAllSilent start now → (member : Member)
      → Stays (epochs_of start logs member) (epochs_of start now member)

module _ (start : Start) (logs now : ℕ → List HostStep) (on : GoOn start logs now) where
  president_on : (p : Member) → IsPresident start logs p → IsPresident start now p
  president_on p is = subst (IsFirst p) on.full is

  beyond_on : (next : ℕ) → EachFull start logs (λ s. next ≤ s.current) → EachFull start now (λ s. next ≤ s.current)
  beyond_on next each =
      subst (Each (λ member. next ≤ (epochs_of start now member).current)) on.full
      (each_map _ _ (current start logs).full
      (λ member less. let more = on.rises member in omega (arith, less, more)) each)

  ordered_on : (next : ℕ) (U : Phase → Type 0)
      → ((p : Member) → IsPresident start logs p → IsStanding start logs p → U (master_of start logs p).phase
      → U (master_of start now p).phase ⊎ EachFull start now (λ s. next ≤ s.current))
      → IsOrdered start logs next U → IsOrdered start now next U
  ordered_on next U step o =
      record {
        president = o.president;
        is = president_on o.president o.is;
        stands = on.stands o.president o.stands;
        speaks = on.speaks o.president o.is o.stands o.speaks;
        far = by o.far;
      }
    where
      by : U (master_of start logs o.president).phase ⊎ EachFull start logs (λ s. next ≤ s.current)
          → U (master_of start now o.president).phase ⊎ EachFull start now (λ s. next ≤ s.current)
      by (inl under) = step o.president o.is o.stands under
      by (inr beyond) = inr (beyond_on next beyond)

  -- what is silent by now was so before
  silent_before : IsAllSilent start now → IsAllSilent start logs
  silent_before silent p is stands = by (silent_or (master_of start logs p).phase)
    where
      by : IsSilent (master_of start logs p).phase ⊎ (IsSilent (master_of start logs p).phase → ⊥)
          → IsSilent (master_of start logs p).phase
      by (inl quiet) = quiet
      by (inr loud) = absurd (on.speaks p is stands loud (silent p (president_on p is) (on.stands p stands)))

  state_on : (x : Signal) (epoch prepared next : ℕ) → IsTrueState start logs x epoch prepared next
      → IsTrueState start now x epoch prepared next
  state_on x epoch prepared next (inl (from, told)) = inl (from, as_told)
    where
      as_told : IsAllSilent start now → IsAsTold start now epoch prepared next (epochs_of start now x.member)
      as_told silent =
          let was = told (silent_before silent) in
          let stays = on.told silent x.member in
          record {
            current_is = stays.current_is ∙ was.current_is;
            prepared_is = stays.prepared_is ∙ was.prepared_is;
            next_is = stays.next_is ∙ was.next_is;
          }
  state_on x epoch prepared next (inr rows) = inr rows

  true_of_on : (x : Addressed) (body : Body) → IsTrueOf start logs x body → IsTrueOf start now x body
  true_of_on x (Epoch (GcpPrepare epoch next)) (less, ordered) = (
    less,
    ordered_on next (λ phase. Prepares epoch next phase ⊎ Commits epoch next phase)
        (λ p is stands under. on.orders p is stands epoch next under) ordered,
  )
  true_of_on x (Epoch (GcpCommit epoch next)) (less, ordered) = (
    less,
    ordered_on next (Commits epoch next) (λ p is stands under. on.commits p is stands epoch next under) ordered,
  )
  true_of_on x (Epoch (GcpPrepareConf epoch)) has = on.prepared x.signal.member epoch has
  true_of_on x (Epoch (GcpNodeFinish epoch)) beyond =
      let more = on.rises x.signal.member in omega (arith, beyond, more)
  true_of_on x (Epoch (GcpStateConf epoch prepared next closed saved durable)) state =
      state_on x.signal epoch prepared next state
  true_of_on x (Epoch GcpOrd) (is, to) = (president_on x.signal.member is, to)
  true_of_on x _ told = tt

  pub true_on : (x : Addressed) → IsTrue start logs x → IsTrue start now x
  true_on x is of_view = true_of_on x x.signal.body (is (of_view ∙ sym on.number))
