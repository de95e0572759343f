-- What is restored, as the latest system slot is found.
use Rattle.std.proofs.Common.{◌≡◌, ◌∙◌, ℕ, false, List, replicate, ap, sym, subst}
use Rattle.std.specs.FinMap as finmap
use Rattle.std.specs.Prelude.{Option, None, Some, Result, Ok, Err}
use Rattle.frag_map.specs.Shape.{groups}
use Rattle.sig_core.specs.Table.{Rows}
use Rattle.sig_core.specs.declared.fault.RestartFault.{RestartFault}
use Rattle.sig_core.specs.declared.slots.SystemSlot.{SystemSlot}
use Rattle.sig_core.specs.declared.view.Shape.{Shape}
use Rattle.sysfile_core.specs.declared.place.TheConstants.{CONTROL_FILE}
use Rattle.sys_restart.specs.declared.restored.Restored.{Restored}
use Rattle.sys_restart.specs.Answers.{ReadsAll, is_outside}
use Rattle.sys_restart.specs.Files.{Disks}
use Rattle.sys_restart.specs.Groups.{rows_of_groups}
use Rattle.sys_restart.specs.Latest.{latest_of}
use Rattle.sys_restart.specs.Lost.{has_saved, none_lost}
use Rattle.sys_restart.specs.Restored.{nothing, nothing_by, restored_by, restored_of, with_rows}
use Rattle.sys_restart.proofs.LostLemmas.{none_saved}

pub restored_as : (shape : Shape) (disks : Disks) (found : Result (Option SystemSlot) RestartFault)
    → latest_of shape disks ≡ found → restored_of shape disks ≡ restored_by shape disks found
unfolding restored_of
restored_as shape disks found is = ap (restored_by shape disks) is

-- an answer to what stands under what was found is one to all
pub restored_reads : (shape : Shape) (disks : Disks) (found : Result (Option SystemSlot) RestartFault)
    (result : Result Restored RestartFault) → latest_of shape disks ≡ found
    → ReadsAll (restored_by shape disks found) result → ReadsAll (restored_of shape disks) result
restored_reads shape disks found result is reads =
    subst (λ (all : Result Restored RestartFault). ReadsAll all result) (sym (restored_as shape disks found is)) reads

-- the rows of the groups under a system slot, and what is wrong with them
pub rows_under : (shape : Shape) (disks : Disks) (system : SystemSlot) (rows : List Rows)
    → rows_of_groups shape disks system ≡ Ok rows
    → restored_by shape disks (Ok (Some system))
    ≡ Ok (record { generation = system.generation; epoch = system.epoch; groups = rows })
rows_under shape disks system rows is = ap (with_rows system) is

pub fails_under : (shape : Shape) (disks : Disks) (system : SystemSlot) (fault : RestartFault)
    → (is_outside fault ≡ false → rows_of_groups shape disks system ≡ Err fault)
    → is_outside fault ≡ false → restored_by shape disks (Ok (Some system)) ≡ Err fault
fails_under shape disks system fault is inside = ap (with_rows system) (is inside)

-- where there is no system slot
none_under : (shape : Shape) (disks : Disks) (count : ℕ) (found : Result (Unit {0}) RestartFault)
    → count ≡ shape.nodes → none_lost disks 1 count ≡ found
    → restored_by shape disks (Ok None) ≡ nothing_by shape found
none_under shape disks count found many is =
    ap (λ (n : ℕ). nothing_by shape (none_lost disks 1 n)) (sym many) ∙ ap (nothing_by shape) is

pub none_reads : (shape : Shape) (disks : Disks) (count : ℕ) (result : Result Restored RestartFault)
    → count ≡ shape.nodes → none_lost disks 1 count ≡ Ok tt → ReadsAll (Ok (nothing shape)) result
    → ReadsAll (restored_by shape disks (Ok None)) result
none_reads shape disks count result many is reads =
    subst (λ (all : Result Restored RestartFault). ReadsAll all result)
    (sym (none_under shape disks count (Ok tt) many is)) reads

pub none_fails : (shape : Shape) (disks : Disks) (count : ℕ) (fault : RestartFault) → count ≡ shape.nodes
    → (is_outside fault ≡ false → none_lost disks 1 count ≡ Err fault)
    → is_outside fault ≡ false → restored_by shape disks (Ok None) ≡ Err fault
none_fails shape disks count fault many is inside = none_under shape disks count (Err fault) many (is inside)

-- and no rows were saved
pub restored_new : (shape : Shape) (disks : Disks) → latest_of shape disks ≡ Ok None
    → ((node : ℕ) → has_saved (disks node CONTROL_FILE) ≡ false) → restored_of shape disks ≡ Ok (nothing shape)
restored_new shape disks latest none =
    restored_as shape disks (Ok None) latest ∙ ap (nothing_by shape) (none_saved disks none 1 shape.nodes)

-- what is found on disks that were never written
without : List Rows → Restored
without rows = record { generation = 0; epoch = 0; groups = rows }

pub nothing_found : (shape : Shape) (rows : List Rows) → rows ≡ replicate (groups shape) finmap.empty
    → ReadsAll (Ok (nothing shape)) (Ok (record { generation = 0; epoch = 0; groups = rows }))
unfolding without
nothing_found shape rows is = ap (λ (all : List Rows). Ok (without all)) (sym is)
