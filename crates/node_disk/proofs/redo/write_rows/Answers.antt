use Rattle.std.proofs.Common.{ℕ, List, drop, subst}
use Rattle.std.specs.Prelude.{is_ok}
use Rattle.redo_log.specs.Stored.{files_of}
use Rattle.sysfile_core.specs.declared.place.TheConstants.{CONTROL_FILE}
use Rattle.sysfile_core.specs.Places.{place_of}
use Rattle.sysfile_core.specs.Runs.{Runs}
use Rattle.sysfile_core.specs.Slots.{control_bytes}
use Rattle.sysfile_core.specs.Writing.{slot_calls}
use Rattle.sys_restart.proofs.PieceLemmas.{rose_after, runs_stop}
use Rattle.node_disk.specs.Saving.{redo_calls}
use Rattle.node_disk.proofs.SaveLemmas.{slot_made}
use Rattle.node_disk.proofs.redo.write_rows.Goals as goal

-- the redo was written
pub returns-in-Ok-clause-runs : goal.returns-in-Ok-clause-runs
returns-in-Ok-clause-runs g c = λ calls told.
    slot_made c.args.from c.args.bytes.now c.args.which c.args.slot.now calls (g.D.Disk.told c.write_redo.new.disk)
    (g.D.Disk.told c.write_slot.new.disk) (is_ok c.write_slot.result) (c.in-Ok.ensures.runs calls told)
    (λ after made.
    subst
    (λ (bytes : List ℕ). Runs (slot_calls (files_of after CONTROL_FILE) CONTROL_FILE (place_of c.args.which)
    (drop 1 bytes)) after (g.D.Disk.told c.write_slot.new.disk) (is_ok c.write_slot.result))
    c.control_bytes.ensures (c.write_slot.ensures.runs after made))

pub returns-in-Ok-clause-cause : goal.returns-in-Ok-clause-cause
returns-in-Ok-clause-cause g c =
    rose_after c.write_slot.result (g.D.Disk.faults c.args.disk.now) (g.D.Disk.faults c.write_redo.new.disk)
    (g.D.Disk.faults c.write_slot.new.disk) c.in-Ok.ensures.steady c.write_slot.ensures.cause

-- it wasn't
pub returns-in-Err-clause-runs : goal.returns-in-Err-clause-runs
returns-in-Err-clause-runs g c = λ calls told.
    let slot = c.args.slot.now in
    runs_stop (redo_calls slot.parity c.args.from c.args.bytes.now)
    (slot_calls (files_of calls CONTROL_FILE) CONTROL_FILE (place_of c.args.which) (drop 1 (control_bytes slot))) calls
    (g.D.Disk.told c.write_redo.new.disk) (c.in-Err.ensures.runs calls told)
