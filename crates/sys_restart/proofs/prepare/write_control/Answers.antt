use Rattle.std.proofs.Common.{ℕ, ◌+◌, true, false, List, length, max, drop, subst}
use Rattle.std.specs.Prelude.{is_ok}
use Rattle.redo_log.specs.Stored.{files_of}
use Rattle.sysfile_core.specs.declared.control.TheConstants.{CONTROL_BYTES}
use Rattle.sysfile_core.specs.declared.place.TheConstants.{CONTROL_FILE}
use Rattle.sysfile_core.specs.Places.{place_of}
use Rattle.sysfile_core.specs.Runs.{Runs}
use Rattle.sysfile_core.specs.Slots.{control_bytes}
use Rattle.sysfile_core.specs.Writing.{slot_calls}
use Rattle.sys_restart.specs.Calls.{own_calls}
use Rattle.sys_restart.proofs.PieceLemmas.{rose_after, runs_stop}
use Rattle.sys_restart.proofs.PrepareLemmas.{slot_made}
use Rattle.sys_restart.proofs.prepare.write_control.Goals as goal

-- the slot was written
pub returns-in-Ok-clause-runs : goal.returns-in-Ok-clause-runs
returns-in-Ok-clause-runs g c = λ calls told.
    slot_made c.args.node c.args.which c.args.slot.now calls (g.D.Disk.told c.write_slot.new.disk)
    (g.D.Disk.told c.make_own.new.disk) (is_ok c.make_own.result) c.requires.which
    (subst
    (λ (bytes : List ℕ). Runs (slot_calls (files_of calls CONTROL_FILE) CONTROL_FILE (place_of c.args.which)
    (drop 1 bytes)) calls (g.D.Disk.told c.write_slot.new.disk) true)
    c.control_bytes.ensures (c.in-Ok.ensures.runs calls told))
    c.make_own.ensures.runs

pub returns-in-Ok-clause-cause : goal.returns-in-Ok-clause-cause
returns-in-Ok-clause-cause g c =
    rose_after c.make_own.result (g.D.Disk.faults c.args.disk.now) (g.D.Disk.faults c.write_slot.new.disk)
    (g.D.Disk.faults c.make_own.new.disk) c.in-Ok.ensures.steady c.make_own.ensures.cause

-- it wasn't
pub returns-in-Err-clause-runs : goal.returns-in-Err-clause-runs
returns-in-Err-clause-runs g c = λ calls told.
    let control = files_of calls CONTROL_FILE in
    runs_stop (slot_calls control CONTROL_FILE (place_of c.args.which) (drop 1 (control_bytes c.args.slot.now)))
    (own_calls c.args.node (max (length control) (place_of c.args.which + CONTROL_BYTES)) control) calls
    (g.D.Disk.told c.write_slot.new.disk)
    (subst
    (λ (bytes : List ℕ). Runs (slot_calls control CONTROL_FILE (place_of c.args.which) (drop 1 bytes)) calls
    (g.D.Disk.told c.write_slot.new.disk) false)
    c.control_bytes.ensures (c.in-Err.ensures.runs calls told))
