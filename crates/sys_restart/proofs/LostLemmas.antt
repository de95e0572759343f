-- Disks without a system slot: whether rows were saved on them, node after node.
use Rattle.std.proofs.Common.{◌≡◌, ◌∙◌, ◌⊎◌, ℕ, zero, suc, ◌+◌, Bool, true, false, nat_lt, List, refl, ap, sym, arith, inl, inr, if◌then◌else◌}
use Rattle.std.specs.Prelude.{◌||◌, Option, None, Some, Result, Ok, Err, IfOk}
use Rattle.std.proofs.lemmas.Bool.{true≢false}
use Rattle.sig_core.specs.declared.fault.ReadFault.{ReadFault}
use Rattle.sig_core.specs.declared.fault.RestartFault.{RestartFault}
use Rattle.sig_core.specs.declared.slots.ControlSlot.{ControlSlot}
use Rattle.sig_core.specs.declared.view.Shape.{Shape}
use Rattle.sysfile_core.specs.declared.place.TheConstants.{CONTROL_FILE, SYSTEM_FILE}
use Rattle.sysfile_core.specs.Reading.{control_at}
use Rattle.sys_restart.specs.declared.restored.Restored.{Restored}
use Rattle.sys_restart.specs.Answers.{is_outside}
use Rattle.sys_restart.specs.Files.{Disks, Files}
use Rattle.sys_restart.specs.Lack.{lacking}
use Rattle.sys_restart.specs.Lost.{and_behind, has_saved, none_lost, none_lost_on, was_saved}
use Rattle.sys_restart.specs.Places.{usable}
use Rattle.sys_restart.specs.Restored.{nothing, nothing_by}

next_lost : (disks : Disks) (node more less : ℕ) (answer : Result (Unit {0}) RestartFault) → more ≡ suc less
    → none_lost_on node (disks node) ≡ answer
    → none_lost disks node more ≡ and_behind answer (none_lost disks (node + 1) less)
unfolding none_lost
next_lost disks node zero less answer size is = absurd (omega (arith, size))
next_lost disks node (suc more) less answer size is =
    let same : more ≡ less = omega (arith, size) in
    ap (λ (n : ℕ). and_behind (none_lost_on node (disks node)) (none_lost disks (node + 1) n)) same
    ∙ ap (λ one. and_behind one (none_lost disks (node + 1) less)) is

-- one more node has lost none
pub lost_more : (disks : Disks) (node more less : ℕ) → more ≡ suc less → none_lost_on node (disks node) ≡ Ok tt
    → none_lost disks (node + 1) less ≡ none_lost disks node more
lost_more disks node more less size is = sym (next_lost disks node more less (Ok tt) size is)

-- one has lost some, or can't be read
pub lost_stops : (disks : Disks) (node more less : ℕ) (fault : RestartFault)
    (all : Result (Unit {0}) RestartFault)
    → more ≡ suc less → (is_outside fault ≡ false → none_lost_on node (disks node) ≡ Err fault)
    → none_lost disks node more ≡ all → is_outside fault ≡ false → all ≡ Err fault
lost_stops disks node more less fault all size is whole inside =
    sym whole ∙ next_lost disks node more less (Err fault) size (is inside)

pub lost_ends : (disks : Disks) (node more : ℕ) → more ≡ 0 → none_lost disks node more ≡ Ok tt
unfolding none_lost
lost_ends disks node zero none = refl
lost_ends disks node (suc more) none = absurd (omega (arith, none))

-- what is known of one node, by what its control file has
lost_as : (node : ℕ) (files : Files) (saved : Bool) → has_saved (files CONTROL_FILE) ≡ saved
    → none_lost_on node files ≡ (if saved then Err (lacking node SYSTEM_FILE files) else Ok tt)
lost_as node files saved is = ap (λ (b : Bool). if b then Err (lacking node SYSTEM_FILE files) else Ok tt) is

-- where no rows were saved none are lost
pub none_saved : (disks : Disks) → ((node : ℕ) → has_saved (disks node CONTROL_FILE) ≡ false) → (node more : ℕ)
    → none_lost disks node more ≡ Ok tt
none_saved disks none node zero = lost_ends disks node zero refl
none_saved disks none node (suc more) =
    next_lost disks node (suc more) more (Ok tt) refl (lost_as node (disks node) false (none node))
    ∙ none_saved disks none (node + 1) more

not_lost : (fault : RestartFault) (found : Result (Unit {0}) RestartFault) → found ≡ Err fault → found ≡ Ok tt → ⊥
not_lost fault found one other = cc

-- where none were on these disks, none are on those
abbrev pub StayUnsaved : Disks → Disks → Type 0
StayUnsaved one two =
    (node : ℕ) → has_saved (one node CONTROL_FILE) ≡ false → has_saved (two node CONTROL_FILE) ≡ false

pub lost_alike : (one two : Disks) → StayUnsaved one two → (node more : ℕ) → none_lost one node more ≡ Ok tt
    → none_lost two node more ≡ Ok tt
lost_alike one two stay node zero is = lost_ends two node zero refl
lost_alike one two stay node (suc more) is =
    by (has_saved (one node CONTROL_FILE)) (lost_alike one two stay (node + 1) more) refl
  where
    by : (saved : Bool) → (none_lost one (node + 1) more ≡ Ok tt → none_lost two (node + 1) more ≡ Ok tt)
        → has_saved (one node CONTROL_FILE) ≡ saved → none_lost two node (suc more) ≡ Ok tt
    by true again e =
        absurd (not_lost (lacking node SYSTEM_FILE (one node)) (none_lost one node (suc more))
        (next_lost one node (suc more) more (Err (lacking node SYSTEM_FILE (one node))) refl
        (lost_as node (one node) true e))
        is)
    by false again e =
        next_lost two node (suc more) more (Ok tt) refl (lost_as node (two node) false (stay node e))
        ∙ again
        (sym (next_lost one node (suc more) more (Ok tt) refl (lost_as node (one node) false e)) ∙ is)

-- nothing is restored only where none are lost
pub nothing_only : (shape : Shape) (r : Restored) (found : Result (Unit {0}) RestartFault)
    → nothing_by shape found ≡ Ok r → (found ≡ Ok tt) × (nothing shape ≡ r)
nothing_only shape r (Err fault) is = absurd (no_restart fault r is)
  where
    no_restart : (fault : RestartFault) (r : Restored)
        → ◌≡◌ {A = Result Restored RestartFault} (Err fault) (Ok r) → ⊥
    no_restart fault r is = cc
nothing_only shape r (Ok done) is = (refl, same (nothing shape) r is)
  where
    same : (a b : Restored) → ◌≡◌ {A = Result Restored RestartFault} (Ok a) (Ok b) → a ≡ b
    same a b is = cc

-- what is found of the slot at the other place
pub saved_read : (bytes : List ℕ) (one : Bool) (result : Result Bool ℕ)
    → one ≡ was_saved (usable (control_at 0 bytes))
    → IfOk result (λ saved. saved ≡ (one || was_saved (usable (control_at 1 bytes))))
    → IfOk result (λ saved. saved ≡ has_saved bytes)
saved_read bytes one (Ok saved) first is =
    is ∙ ap (λ (b : Bool). b || was_saved (usable (control_at 1 bytes))) first
saved_read bytes one (Err count) first is = tt

-- Of a place at which a slot was written: what was there before, or none, or that slot.
abbrev pub IsWritten : ControlSlot → Result (Option ControlSlot) ReadFault → Result (Option ControlSlot) ReadFault
    → Type 0
IsWritten slot before after = (after ≡ before) ⊎ ((after ≡ Ok None) ⊎ (after ≡ Ok (Some slot)))

-- no rows were saved under it where none were before, nor under that slot
written_unsaved : (slot : ControlSlot) (before after : Result (Option ControlSlot) ReadFault)
    → nat_lt 0 slot.saved ≡ false → was_saved (usable before) ≡ false → IsWritten slot before after
    → was_saved (usable after) ≡ false
written_unsaved slot before after none is (inl same) = ap (λ read. was_saved (usable read)) same ∙ is
written_unsaved slot before after none is (inr (inl closed)) = ap (λ read. was_saved (usable read)) closed
written_unsaved slot before after none is (inr (inr new)) = ap (λ read. was_saved (usable read)) new ∙ none

-- a slot is written at the free place of a control file, and the other place stays
abbrev pub AreWritten : ControlSlot → ℕ → List ℕ → List ℕ → Type 0
AreWritten slot free before after =
    ((free ≡ 0) × ((control_at 1 after ≡ control_at 1 before)
    × IsWritten slot (control_at 0 before) (control_at 0 after)))
    ⊎ ((free ≡ 1) × ((control_at 0 after ≡ control_at 0 before)
    × IsWritten slot (control_at 1 before) (control_at 1 after)))

neither : (a b : Bool) → (a || b) ≡ false → (a ≡ false) × (b ≡ false)
neither true b is = absurd (true≢false is)
neither false b is = (refl, is)

none_of : (bytes : List ℕ) → was_saved (usable (control_at 0 bytes)) ≡ false
    → was_saved (usable (control_at 1 bytes)) ≡ false → has_saved bytes ≡ false
none_of bytes one other = ap (λ (b : Bool). b || was_saved (usable (control_at 1 bytes))) one ∙ other

pub stays_unsaved : (slot : ControlSlot) (free : ℕ) (before after : List ℕ) → nat_lt 0 slot.saved ≡ false
    → AreWritten slot free before after → has_saved before ≡ false → has_saved after ≡ false
stays_unsaved slot free before after none (inl (at, (kept, written))) is =
    let both = neither (was_saved (usable (control_at 0 before))) (was_saved (usable (control_at 1 before))) is in
    none_of after (written_unsaved slot (control_at 0 before) (control_at 0 after) none both.0 written)
    (ap (λ read. was_saved (usable read)) kept ∙ both.1)
stays_unsaved slot free before after none (inr (at, (kept, written))) is =
    let both = neither (was_saved (usable (control_at 0 before))) (was_saved (usable (control_at 1 before))) is in
    none_of after (ap (λ read. was_saved (usable read)) kept ∙ both.0)
    (written_unsaved slot (control_at 1 before) (control_at 1 after) none both.1 written)
