-- The rows that a control slot names.
use Rattle.std.specs.Prelude.{ℕ, ◌-◌, Result, Ok, Err}
use Rattle.sig_core.specs.Table.{Rows}
use Rattle.sig_core.specs.declared.fault.ReadFault.{ReadFault}
use Rattle.sig_core.specs.declared.slots.ControlSlot.{ControlSlot}
use Rattle.sys_restart.specs.Checkpoint.{rows_of_file}
use Rattle.sys_restart.specs.Files.{Files}
use Rattle.sys_restart.specs.Redone.{redone}

abbrev pub with_redo : ℕ → Files → ControlSlot → Result Rows ReadFault → Result Rows ReadFault
with_redo epoch files slot (Err fault) = Err fault
with_redo epoch files slot (Ok rows) =
    redone epoch rows files slot.parity slot.redo_start (slot.redo_end - slot.redo_start)

-- Those of its checkpoint, in which a row of a later epoch than this one is damage, and then its redo up to this epoch.
abbrev pub rows_of_slot : ℕ → Files → ControlSlot → Result Rows ReadFault
rows_of_slot epoch files slot =
    with_redo epoch files slot (rows_of_file slot.ckpt_file slot.ckpt_size epoch (files slot.ckpt_file))
