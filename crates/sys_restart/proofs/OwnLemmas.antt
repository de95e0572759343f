-- The rows of a control slot, and those that a node's disk has of itself, step by step.
use Rattle.std.proofs.Common.{◌≡◌, ◌∙◌, ℕ, ◌-◌, ◌==◌, ◌&&◌, Bool, true, false, ap, sym, subst, if◌then◌else◌}
use Rattle.std.specs.Prelude.{Option, None, Some, Result, Ok, Err}
use Rattle.sig_core.specs.Table.{Rows}
use Rattle.sig_core.specs.declared.fault.ReadFault.{ReadFault}
use Rattle.sig_core.specs.declared.slots.ControlSlot.{ControlSlot}
use Rattle.sig_core.specs.declared.slots.Own.{Own}
use Rattle.sig_core.specs.declared.slots.SystemSlot.{SystemSlot}
use Rattle.sig_core.specs.declared.view.Shape.{Shape}
use Rattle.sysfile_core.specs.declared.place.TheConstants.{CONTROL_FILE, SYSTEM_FILE}
use Rattle.sysfile_core.specs.Reading.{control_of_file, system_of_file}
use Rattle.sys_restart.specs.Answers.{Reads, is_outer}
use Rattle.sys_restart.specs.Checkpoint.{rows_of_file}
use Rattle.sys_restart.specs.Files.{Files}
use Rattle.sys_restart.specs.Groups.{is_listed}
use Rattle.sys_restart.specs.Latest.{same_shape}
use Rattle.sys_restart.specs.Own.{own_by, own_of, own_rows, own_under}
use Rattle.sys_restart.specs.Redone.{redone}
use Rattle.sys_restart.specs.SlotRows.{rows_of_slot, with_redo}
use Rattle.sys_restart.proofs.RedoneLemmas.{IsRedone}

pub slot_fails : (epoch : ℕ) (files : Files) (slot : ControlSlot) (fault : ReadFault)
    → (is_outer fault ≡ false
    → rows_of_file slot.ckpt_file slot.ckpt_size epoch (files slot.ckpt_file) ≡ Err fault)
    → is_outer fault ≡ false → rows_of_slot epoch files slot ≡ Err fault
slot_fails epoch files slot fault is inside = ap (with_redo epoch files slot) (is inside)

pub slot_reads : (epoch : ℕ) (files : Files) (slot : ControlSlot) (rows after : Rows)
    (result : Result (Unit {0}) ReadFault)
    → rows_of_file slot.ckpt_file slot.ckpt_size epoch (files slot.ckpt_file) ≡ Ok rows
    → IsRedone (redone epoch rows files slot.parity slot.redo_start (slot.redo_end - slot.redo_start)) after result
    → IsRedone (rows_of_slot epoch files slot) after result
slot_reads epoch files slot rows after (Ok done) rows_are is = ap (with_redo epoch files slot) rows_are ∙ is
slot_reads epoch files slot rows after (Err fault) rows_are is =
    λ inside. ap (with_redo epoch files slot) rows_are ∙ is inside

-- what is said under a system slot that was read
pub own_as : (shape : Shape) (node : ℕ) (files : Files) (found : Result (Option SystemSlot) ReadFault)
    → system_of_file (files SYSTEM_FILE) ≡ found → own_of shape node files ≡ own_under shape node files found
unfolding own_of
own_as shape node files found is = ap (own_under shape node files) is

pub own_fails : (shape : Shape) (node : ℕ) (files : Files) (fault : ReadFault)
    → (is_outer fault ≡ false → system_of_file (files SYSTEM_FILE) ≡ Err fault)
    → is_outer fault ≡ false → own_of shape node files ≡ Err fault
own_fails shape node files fault is inside = own_as shape node files (Err fault) (is inside)

-- an answer to what stands under the system slot is one to all
pub own_found : (shape : Shape) (node : ℕ) (files : Files) (system : SystemSlot)
    (result : Result (Option Own) ReadFault) → system_of_file (files SYSTEM_FILE) ≡ Ok (Some system)
    → Reads (own_under shape node files (Ok (Some system))) result → Reads (own_of shape node files) result
own_found shape node files system result is reads =
    subst (λ (all : Result (Option Own) ReadFault). Reads all result)
    (sym (own_as shape node files (Ok (Some system)) is)) reads

-- what is said under a system slot that lists the node, and under one that doesn't
pub under_listed : (shape : Shape) (node : ℕ) (files : Files) (system : SystemSlot)
    (control : Result (Option ControlSlot) ReadFault)
    → (same_shape system.shape shape && is_listed system.mask node) ≡ true
    → control_of_file system.generation (files CONTROL_FILE) ≡ control
    → own_under shape node files (Ok (Some system)) ≡ own_by system files control
under_listed shape node files system control so found =
    ap
    (λ (b : Bool). if b then own_by system files (control_of_file system.generation (files CONTROL_FILE)) else Ok None)
    so
    ∙ ap (own_by system files) found

pub under_unlisted : (shape : Shape) (node : ℕ) (files : Files) (system : SystemSlot)
    → (same_shape system.shape shape && is_listed system.mask node) ≡ false
    → own_under shape node files (Ok (Some system)) ≡ Ok None
under_unlisted shape node files system not_so =
    ap
    (λ (b : Bool). if b then own_by system files (control_of_file system.generation (files CONTROL_FILE)) else Ok None)
    not_so

pub under_fails : (shape : Shape) (node : ℕ) (files : Files) (system : SystemSlot) (fault : ReadFault)
    → (same_shape system.shape shape && is_listed system.mask node) ≡ true
    → (is_outer fault ≡ false → control_of_file system.generation (files CONTROL_FILE) ≡ Err fault)
    → is_outer fault ≡ false → own_under shape node files (Ok (Some system)) ≡ Err fault
under_fails shape node files system fault so found inside =
    under_listed shape node files system (Err fault) so (found inside)

-- an answer to what stands under the control slot is one to all
pub under_found : (shape : Shape) (node : ℕ) (files : Files) (system : SystemSlot) (control : ControlSlot)
    (result : Result (Option Own) ReadFault)
    → (same_shape system.shape shape && is_listed system.mask node) ≡ true
    → control_of_file system.generation (files CONTROL_FILE) ≡ Ok (Some control)
    → Reads (own_by system files (Ok (Some control))) result
    → Reads (own_under shape node files (Ok (Some system))) result
under_found shape node files system control result so found reads =
    subst (λ (all : Result (Option Own) ReadFault). Reads all result)
    (sym (under_listed shape node files system (Ok (Some control)) so found)) reads

pub own_other : (system : SystemSlot) (files : Files) (control : ControlSlot)
    → (control.saved == system.epoch) ≡ false → own_by system files (Ok (Some control)) ≡ Ok None
own_other system files control not_so =
    ap (λ (b : Bool). if b then own_rows system.epoch (rows_of_slot system.epoch files control) else Ok None) not_so

pub own_same : (system : SystemSlot) (files : Files) (control : ControlSlot) (rows : Result Rows ReadFault)
    → (control.saved == system.epoch) ≡ true → rows_of_slot system.epoch files control ≡ rows
    → own_by system files (Ok (Some control)) ≡ own_rows system.epoch rows
own_same system files control rows so is =
    ap (λ (b : Bool). if b then own_rows system.epoch (rows_of_slot system.epoch files control) else Ok None) so
    ∙ ap (own_rows system.epoch) is

pub own_same_fails : (system : SystemSlot) (files : Files) (control : ControlSlot) (fault : ReadFault)
    → (control.saved == system.epoch) ≡ true
    → (is_outer fault ≡ false → rows_of_slot system.epoch files control ≡ Err fault)
    → is_outer fault ≡ false → own_by system files (Ok (Some control)) ≡ Err fault
own_same_fails system files control fault so is inside = own_same system files control (Err fault) so (is inside)
