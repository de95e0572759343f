-- How far the members of the current view are: each gives the same epoch, or some have prepared for the next one or
-- gone on to it.
use Rattle.std.specs.Prelude.{◌≡◌, ◌≤◌, ◌<◌, ◌⊎◌, ℕ, List, Option, None, Some}
use Rattle.run_theory.specs.Lists.{Each, IsIn}
use Rattle.sig_core.specs.declared.mark.Mark.{Mark}
use Rattle.sig_core.specs.declared.mark.Mark.TheVariants.{Decided}
use Rattle.sig_core.specs.declared.member.Member.{Member}
use Rattle.dih_node.specs.declared.dih.Report.{Report}
use Rattle.dih_node.specs.State.{DihState}
use Rattle.world_core.specs.Start.{Start, made}
use Rattle.world_core.specs.Steps.{HostStep}
use Rattle.epoch_laws.specs.Members.{epochs_of}
use Rattle.moment_laws.specs.Moments.{current}

-- an order whose end is to be reported is of an epoch that isn't given any more
abbrev pub IsPast : Option Report → ℕ → Type 0
IsPast None epoch = Unit {0}
IsPast (Some order) epoch = order.epoch < epoch

-- What is so of one member by itself: a prepared epoch isn't below the current one, and the next is above it; where
-- none is prepared the next is the current one, and the last order was for one before it.
pub record IsSound (s : DihState) : Type 0 where
  pub some : 1 ≤ s.current
  pub preparing : s.current < s.next → (s.current ≤ s.prepared) × (s.prepared < s.next)
  pub resting : s.next ≤ s.current → (s.next ≡ s.current) × (s.prepared < s.current)
  pub order : IsPast s.order s.current

-- it gives this epoch and prepares for none
pub record Rests (epoch : ℕ) (s : DihState) : Type 0 where
  pub gives : s.current ≡ epoch
  pub next_is : s.next ≡ epoch

-- it gives this epoch, and hasn't prepared for another one than the next
pub record Waits (epoch next : ℕ) (s : DihState) : Type 0 where
  pub gives : s.current ≡ epoch
  pub prepared : s.current < s.next → (s.prepared ≡ epoch) × (s.next ≡ next)

-- it has prepared for the next one
pub record IsReady (epoch next : ℕ) (s : DihState) : Type 0 where
  pub gives : s.current ≡ epoch
  pub prepared_is : s.prepared ≡ epoch
  pub next_is : s.next ≡ next

-- it has gone on to the next one
pub record HasGone (epoch next : ℕ) (s : DihState) : Type 0 where
  pub gives : s.current ≡ next
  pub next_is : s.next ≡ next
  pub prepared : s.prepared ≤ epoch

abbrev pub IsAcross : ℕ → ℕ → DihState → Type 0
IsAcross epoch next s = IsReady epoch next s ⊎ HasGone epoch next s

-- a mark gives no later epoch than this
abbrev pub GivesUpTo : ℕ → Mark → Type 0
GivesUpTo epoch (Decided tx given) = given ≤ epoch
GivesUpTo epoch mark = Unit {0}

module _ (start : Start) (logs : ℕ → List HostStep) where
  -- so it is of the epochs of each full member of the current view
  abbrev pub EachFull : (DihState → Type 0) → Type 0
  EachFull P = Each (λ member. P (epochs_of start logs member)) (current start logs).full

  -- nobody that was ever made gives a later epoch than this, nor has given one
  pub record AreUpTo (epoch : ℕ) : Type 0 where
    pub gives : (member : Member) → IsIn member (made start) → (epochs_of start logs member).current ≤ epoch
    pub given : (h : ℕ) → Each (λ e. Each (GivesUpTo epoch) e.step.marks) (logs h)

  -- all members of the current view give the epoch, or all have prepared for the next one or gone on to it
  abbrev pub AreTogether : ℕ → ℕ → Type 0
  AreTogether epoch next =
      (EachFull (Waits epoch next) × AreUpTo epoch) ⊎ (EachFull (IsAcross epoch next) × AreUpTo next)

  pub record AreAlike : Type 0 where
    pub epoch : ℕ
    pub next : ℕ
    pub rises : epoch < next
    pub together : AreTogether epoch next
