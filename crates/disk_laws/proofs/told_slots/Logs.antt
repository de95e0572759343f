-- What two control slots tell of logs they tell of longer ones, whichever of them comes first.
use Rattle.std.proofs.Common.{ℕ, List, ◌++◌, [], ◌∷◌, inl, inr, sym, subst}
use Rattle.std.specs.Prelude.{None, Option, Some}
use Rattle.host_io.specs.Call.{Call}
use Rattle.run_theory.specs.Cuts.{IsCut}
use Rattle.run_theory.specs.Lists.{IsPast}
use Rattle.sig_core.specs.declared.mark.Mark.{Mark}
use Rattle.sig_core.specs.declared.mark.Mark.TheVariants.{Durable}
use Rattle.sig_core.specs.declared.member.Member.{Member}
use Rattle.sig_core.specs.declared.slots.ControlSlot.{ControlSlot}
use Rattle.sysfile_core.specs.Reading.{control_at, of_generation}
use Rattle.sys_restart.specs.Places.{usable}
use Rattle.world_core.specs.Start.{Start}
use Rattle.world_core.specs.Steps.{HostStep}
use Rattle.moment_laws.specs.Places.{ldm_of}
use Rattle.outcome_laws.specs.Decided.{IsMarked}
use Rattle.saved_laws.specs.Behind.{IsDurable}
use Rattle.disk_laws.specs.ToldSlots.{AreTold, IsKnownDurable, LeavesTold, SlotsAreTold}
use Rattle.disk_laws.proofs.RowsSaved.{told_longer}

-- a mark stays as a log grows
marked_along : (mark : Mark) (older log : List HostStep) → IsPast older log → IsMarked mark older → IsMarked mark log
marked_along mark older log past is = subst (IsMarked mark) (sym past.is) (go past.newer)
  where
    go : (newer : List HostStep) → IsMarked mark (newer ++ older)
    go [] = is
    go (e ∷ newer) = inr (go newer)

-- so what is durable stays so
pub durable_along : (start : Start) (older logs : ℕ → List HostStep) → IsCut older logs → (epoch : ℕ)
    → IsDurable start older epoch → IsDurable start logs epoch
durable_along start older logs grown epoch (inl first) = inl first
durable_along start older logs grown epoch (inr was) =
    inr (record {
      host = was.host;
      below = was.below;
      at = was.at;
      marked = marked_along (Durable was.at) (older was.host) (logs was.host) (grown was.host) was.marked;
      least = was.least;
    })

module _ (start : Start) (member : Member) (generation : ℕ) where
  known_along : (older logs : ℕ → List HostStep) → IsCut older logs → (epoch : ℕ)
      → IsKnownDurable start member generation older epoch → IsKnownDurable start member generation logs epoch
  known_along older logs grown epoch (inl told) =
      inl (told_longer start member (older (ldm_of start member)) (logs (ldm_of start member)) epoch
      (grown (ldm_of start member)) told)
  known_along older logs grown epoch (inr durable) = inr (durable_along start older logs grown epoch durable)

  told_along : (older logs : ℕ → List HostStep) → IsCut older logs → (one other : Option ControlSlot)
      → AreTold start member generation older one other → AreTold start member generation logs one other
  told_along older logs grown (Some one) (Some other) (inl known) = inl (known_along older logs grown one.saved known)
  told_along older logs grown (Some one) (Some other) (inr known) =
      inr (known_along older logs grown other.saved known)
  told_along older logs grown (Some one) None told = tt
  told_along older logs grown None other told = tt

  pub slots_along : (older logs : ℕ → List HostStep) → IsCut older logs → (bytes : List ℕ)
      → SlotsAreTold start member generation older bytes → SlotsAreTold start member generation logs bytes
  slots_along older logs grown bytes told =
      told_along older logs grown (of_generation generation (usable (control_at 0 bytes)))
      (of_generation generation (usable (control_at 1 bytes))) told

  pub leaves_along : (older logs : ℕ → List HostStep) → IsCut older logs → (calls : List Call)
      → LeavesTold start member generation older calls → LeavesTold start member generation logs calls
  leaves_along older logs grown calls leaves bytes image = slots_along older logs grown bytes (leaves bytes image)

  pub told_swapped : (logs : ℕ → List HostStep) (one other : Option ControlSlot)
      → AreTold start member generation logs one other → AreTold start member generation logs other one
  told_swapped logs (Some one) (Some other) (inl known) = inr known
  told_swapped logs (Some one) (Some other) (inr known) = inl known
  told_swapped logs (Some one) None told = tt
  told_swapped logs None (Some other) told = tt
  told_swapped logs None None told = tt
