use Rattle.std.proofs.Common.{◌∙◌, ap}
use Rattle.std.specs.Prelude.{None, Ok}
use Rattle.redo_log.specs.Stored.{files_of}
use Rattle.sig_core.specs.declared.slots.SystemSlot.{SystemSlot}
use Rattle.sysfile_core.specs.declared.place.TheConstants.{SYSTEM_FILE}
use Rattle.sysfile_core.specs.Reading.{system_of_file}
use Rattle.sys_restart.proofs.FaultLemmas.{cause_after, slot_cause, slot_fault}
use Rattle.sys_restart.proofs.OwnLemmas.{own_as, own_fails, own_found}
use Rattle.sys_restart.proofs.own.restore_own.Goals as goal

-- a system slot is in use
pub returns-in-Ok-Some-clause-read : goal.returns-in-Ok-Some-clause-read
returns-in-Ok-Some-clause-read g c = λ calls told.
    own_found c.args.shape c.args.node (files_of calls) c.in-Ok-Some.system c.own_under.result
    (c.in-Ok-Some.ensures.read calls told ∙ ap Ok c.in-Ok-Some.field-0-is)
    (c.own_under.ensures.read calls (c.in-Ok-Some.ensures.unrecorded ∙ told))

pub returns-in-Ok-Some-clause-cause : goal.returns-in-Ok-Some-clause-cause
returns-in-Ok-Some-clause-cause g c =
    cause_after (g.D.Disk.faults c.args.disk.now) (g.D.Disk.faults c.read_system.new.disk)
    (g.D.Disk.faults c.own_under.new.disk) c.own_under.result c.in-Ok-Some.ensures.steady c.own_under.ensures.cause

-- none is
pub returns-in-Ok-None-clause-read : goal.returns-in-Ok-None-clause-read
returns-in-Ok-None-clause-read g c = λ calls told.
    own_as c.args.shape c.args.node (files_of calls) (Ok None)
    (c.in-Ok-None.ensures.read calls told ∙ ap Ok c.in-Ok-None.field-0-is)

-- it can't be read
pub returns-in-Err-clause-read : goal.returns-in-Err-clause-read
returns-in-Err-clause-read g c = λ calls told.
    own_fails c.args.shape c.args.node (files_of calls) c.in-Err.fault
    (slot_fault (system_of_file (files_of calls SYSTEM_FILE)) c.in-Err.fault (c.in-Err.ensures.read calls told))

pub returns-in-Err-clause-cause : goal.returns-in-Err-clause-cause
returns-in-Err-clause-cause g c =
    slot_cause SystemSlot (g.D.Disk.faults c.args.disk.now) (g.D.Disk.faults c.read_system.new.disk) c.in-Err.fault
    c.in-Err.ensures.cause
