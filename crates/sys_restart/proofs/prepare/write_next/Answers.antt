use Rattle.std.proofs.Common.{true, false, refl, subst}
use Rattle.redo_log.specs.Stored.{files_of}
use Rattle.sig_core.specs.declared.slots.ControlSlot.{ControlSlot}
use Rattle.sysfile_core.specs.declared.place.TheConstants.{CONTROL_FILE}
use Rattle.sysfile_core.specs.Runs.{Runs}
use Rattle.sys_restart.specs.Calls.{write_calls}
use Rattle.sys_restart.proofs.prepare.write_next.Goals as goal

pub returns-in-Ok-clause-runs : goal.returns-in-Ok-clause-runs
returns-in-Ok-clause-runs g c = λ calls told.
    subst
    (λ (slot : ControlSlot). Runs (write_calls c.args.node (files_of calls CONTROL_FILE) c.args.places.now.free slot
    c.args.bytes.now) calls (g.D.Disk.told c.write_node.new.disk) true)
    c.next_slot-slot.ensures.value (c.in-Ok.ensures.runs calls told)

pub returns-in-Err-clause-runs : goal.returns-in-Err-clause-runs
returns-in-Err-clause-runs g c = λ calls told.
    subst
    (λ (slot : ControlSlot). Runs (write_calls c.args.node (files_of calls CONTROL_FILE) c.args.places.now.free slot
    c.args.bytes.now) calls (g.D.Disk.told c.write_node.new.disk) false)
    c.next_slot-slot.ensures.value (c.in-Err.ensures.runs calls told)

pub returns-in-Err-clause-cause : goal.returns-in-Err-clause-cause
returns-in-Err-clause-cause g c = (refl, c.in-Err.ensures.cause, c.faults.ensures)
