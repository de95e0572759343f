-- The latest system slot, node after node.
use Rattle.std.proofs.Common.{◌≡◌, ◌∙◌, ℕ, zero, suc, ◌+◌, ◌≤◌, Bool, true, false, refl, ap, sym, subst, arith, if◌then◌else◌}
use Rattle.std.specs.Prelude.{Option, None, Some, Result, Ok, Err}
use Rattle.std.proofs.lemmas.Bool.{true≢false}
use Rattle.sig_core.specs.declared.fault.ReadFault.{ReadFault}
use Rattle.sig_core.specs.declared.fault.ReadFault.TheVariants as read
use Rattle.sig_core.specs.declared.fault.RestartFault.{RestartFault}
use Rattle.sig_core.specs.declared.fault.RestartFault.TheVariants.{Damaged, DiskFault, NoMemory, OtherShape, UsedUp}
use Rattle.sig_core.specs.declared.slots.SystemSlot.{SystemSlot}
use Rattle.sig_core.specs.declared.view.Shape.{Shape}
use Rattle.sysfile_core.specs.Reading as slots
use Rattle.sysfile_core.specs.Reading.{later_system}
use Rattle.sys_restart.specs.Answers.{HasCauseOf, IsCauseOf, ReadsAll, is_outside}
use Rattle.sys_restart.specs.Files.{Disks}
use Rattle.sys_restart.specs.Latest.{later, latest_from, latest_of, latest_on, of_shape, same_shape}

-- what is wrong with one node is wrong with all
pub latest_fails : (shape : Shape) (disks : Disks) (node more : ℕ) (fault : RestartFault)
    → latest_from shape disks node more (Err fault) ≡ Err fault
unfolding latest_from
latest_fails shape disks node zero fault = refl
latest_fails shape disks node (suc more) fault = latest_fails shape disks (node + 1) more fault

next_latest : (shape : Shape) (disks : Disks) (node more less : ℕ)
    (found answer : Result (Option SystemSlot) RestartFault)
    → more ≡ suc less → latest_on shape node (disks node) ≡ answer
    → latest_from shape disks node more found ≡ latest_from shape disks (node + 1) less (later found answer)
unfolding latest_from
next_latest shape disks node zero less found answer size is = absurd (omega (arith, size))
next_latest shape disks node (suc more) less found answer size is =
    let same : more ≡ less = omega (arith, size) in
    ap (λ (n : ℕ). latest_from shape disks (node + 1) n (later found (latest_on shape node (disks node)))) same
    ∙ ap (λ one. latest_from shape disks (node + 1) less (later found one)) is

-- the slots of one more node
pub latest_more : (shape : Shape) (disks : Disks) (node more less : ℕ) (found slot : Option SystemSlot)
    → more ≡ suc less → latest_on shape node (disks node) ≡ Ok slot
    → latest_from shape disks (node + 1) less (Ok (later_system found slot))
    ≡ latest_from shape disks node more (Ok found)
latest_more shape disks node more less found slot size is =
    sym (next_latest shape disks node more less (Ok found) (Ok slot) size is)

-- where they aren't read, neither are all
pub latest_stops : (shape : Shape) (disks : Disks) (node more less : ℕ) (found : Option SystemSlot)
    (fault : RestartFault)
    (all : Result (Option SystemSlot) RestartFault)
    → more ≡ suc less → (is_outside fault ≡ false → latest_on shape node (disks node) ≡ Err fault)
    → latest_from shape disks node more (Ok found) ≡ all → is_outside fault ≡ false → all ≡ Err fault
latest_stops shape disks node more less found fault all size is whole inside =
    sym whole
    ∙ next_latest shape disks node more less (Ok found) (Err fault) size (is inside)
    ∙ latest_fails shape disks (node + 1) less fault

pub latest_ends : (shape : Shape) (disks : Disks) (node more : ℕ) (found : Result (Option SystemSlot) RestartFault)
    → more ≡ 0 → latest_from shape disks node more found ≡ found
unfolding latest_from
latest_ends shape disks node zero found none = refl
latest_ends shape disks node (suc more) found none = absurd (omega (arith, none))

-- an answer reads itself
reads_itself : {A : Type 0} (answer : Result A RestartFault) → ReadsAll answer answer
reads_itself (Ok a) = refl
reads_itself (Err fault) = λ inside. refl

-- a slot that was read, of the shape
pub shaped_reads : (shape : Shape) (node : ℕ) (found told : Result (Option SystemSlot) ReadFault)
    → slots.Reads found told → ReadsAll (of_shape shape node found) (of_shape shape node told)
shaped_reads shape node found (Err (read.DiskFault count)) is = λ inside. absurd (true≢false inside)
shaped_reads shape node found (Err (read.Damaged file at byte)) is = λ inside. ap (of_shape shape node) is
shaped_reads shape node found (Err read.NoMemory) is = absurd is
shaped_reads shape node found (Ok slot) is =
    subst
    (λ (from : Result (Option SystemSlot) ReadFault). ReadsAll (of_shape shape node from)
    (of_shape shape node (Ok slot)))
    (sym is) (reads_itself (of_shape shape node (Ok slot)))

shape_cause : (shape : Shape) (node before now : ℕ) (slot : SystemSlot) (same : Bool)
    → HasCauseOf {A = Option SystemSlot} node before now
    (if same then Ok (Some slot) else Err (OtherShape slot.shape shape))
shape_cause shape node before now slot true = tt
shape_cause shape node before now slot false = tt

pub shaped_cause : (shape : Shape) (node before now : ℕ) (told : Result (Option SystemSlot) ReadFault)
    → slots.HasCause before now told → HasCauseOf node before now (of_shape shape node told)
shaped_cause shape node before now (Err (read.DiskFault count)) is = (refl, is.0, is.1)
shaped_cause shape node before now (Err (read.Damaged file at byte)) is = tt
shaped_cause shape node before now (Err read.NoMemory) is = absurd is
shaped_cause shape node before now (Ok None) is = tt
shaped_cause shape node before now (Ok (Some slot)) is =
    shape_cause shape node before now slot (same_shape slot.shape shape)

-- the later of two that were read
pub later_stops : (one other : Result (Option SystemSlot) RestartFault) (fault : RestartFault)
    → (is_outside fault ≡ false → one ≡ Err fault) → is_outside fault ≡ false → later one other ≡ Err fault
later_stops one other fault is inside = ap (λ (a : Result (Option SystemSlot) RestartFault). later a other) (is inside)

pub later_after : (one other result : Result (Option SystemSlot) RestartFault) (slot : Option SystemSlot)
    → one ≡ Ok slot → ReadsAll (later (Ok slot) other) result → ReadsAll (later one other) result
later_after one other result slot is reads =
    subst (λ (a : Result (Option SystemSlot) RestartFault). ReadsAll (later a other) result) (sym is) reads

-- the latest of all nodes, where there are so many disks
pub latest_of_all : (shape : Shape) (disks : Disks) (count : ℕ) (found : Result (Option SystemSlot) RestartFault)
    → count ≡ shape.nodes → latest_from shape disks 1 count (Ok None) ≡ found → latest_of shape disks ≡ found
latest_of_all shape disks count found many is =
    ap (λ (n : ℕ). latest_from shape disks 1 n (Ok None)) (sym many) ∙ is

-- the cause of an answer behind calls on the disk that didn't lower the count
cause_of_behind : (node first before now : ℕ) (fault : RestartFault) → first ≤ before
    → IsCauseOf node before now fault → IsCauseOf node first now fault
cause_of_behind node first before now (DiskFault of count) less is = (is.0, omega (arith, less, is.1), is.2)
cause_of_behind node first before now (OtherShape found asked) less is = tt
cause_of_behind node first before now (Damaged of file at byte) less is = tt
cause_of_behind node first before now (UsedUp generation epoch) less is = tt
cause_of_behind node first before now NoMemory less is = tt

pub cause_of_after : {A : Type 0} (node first before now : ℕ) (result : Result A RestartFault) → first ≤ before
    → HasCauseOf node before now result → HasCauseOf node first now result
cause_of_after node first before now (Ok a) less is = tt
cause_of_after node first before now (Err fault) less is = cause_of_behind node first before now fault less is
