-- As a life begins, of two control slots of its generation one is in use, which was saved at the epoch from which the
-- life starts.
use Rattle.std.proofs.Common.{◌≡◌, ◌≤◌, ℕ, Bool, true, false, nat_lt, List, refl, ap, sym, subst, arith, inl, inr}
use Rattle.std.proofs.Common.{if◌then◌else◌}
use Rattle.std.specs.Prelude.{None, Ok, Option, Some}
use Rattle.sig_core.specs.declared.member.Member.{Member}
use Rattle.sig_core.specs.declared.slots.ControlSlot.{ControlSlot}
use Rattle.sysfile_core.specs.Reading.{control_at, control_of_file, later_control, of_generation}
use Rattle.sys_restart.specs.Places.{usable}
use Rattle.sys_restart.proofs.AlikeLemmas.{same_some}
use Rattle.sys_restart.proofs.ControlLemmas.{AreRead, both_read}
use Rattle.world_core.specs.Start.{Start}
use Rattle.world_core.specs.Steps.{HostStep}
use Rattle.disk_laws.specs.ToldSlots.{AreTold, SlotsAreTold}

module _ (start : Start) (member : Member) (generation : ℕ) (logs : ℕ → List HostStep) (slot : ControlSlot)
    (low : slot.saved ≤ start.start_epoch) where
  either_begins : (one other : Option ControlSlot) → later_control one other ≡ Some slot
      → AreTold start member generation logs one other
  either_begins (Some one) (Some other) is = by (nat_lt one.serial other.serial) is
    where
      by : (less : Bool) → (if less then Some other else Some one) ≡ Some slot
          → AreTold start member generation logs (Some one) (Some other)
      by true so =
          let saved : other.saved ≡ slot.saved =
          ap (λ (s : ControlSlot). s.saved) (same_some other slot (Some other) refl so) in
          inr (inr (inl (omega (arith, low, saved))))
      by false so =
          let saved : one.saved ≡ slot.saved =
          ap (λ (s : ControlSlot). s.saved) (same_some one slot (Some one) refl so) in
          inl (inr (inl (omega (arith, low, saved))))
  either_begins (Some one) None is = tt
  either_begins None other is = tt

  file_begins : (bytes : List ℕ) → AreRead generation bytes (Some slot)
      → SlotsAreTold start member generation logs bytes
  file_begins bytes read =
      subst
      (λ one. AreTold start member generation logs (of_generation generation (usable one))
      (of_generation generation (usable (control_at 1 bytes)))) (sym read.first)
      (subst
      (λ other. AreTold start member generation logs (of_generation generation read.one)
      (of_generation generation (usable other))) (sym read.second)
      (either_begins (of_generation generation read.one) (of_generation generation read.other) read.later))

pub told_slots_begin : (start : Start) (member : Member) (generation : ℕ) (logs : ℕ → List HostStep)
    (slot : ControlSlot) (bytes : List ℕ) → control_of_file generation bytes ≡ Ok (Some slot)
    → slot.saved ≤ start.start_epoch → SlotsAreTold start member generation logs bytes
told_slots_begin start member generation logs slot bytes is low =
    file_begins start member generation logs slot low bytes (both_read generation bytes (Some slot) is)
