use Rattle.std.proofs.Common.{◌≡◌, ◌∙◌, ◌&&◌, true, ap, sym}
use Rattle.std.specs.Prelude.{None, Ok}
use Rattle.redo_log.specs.Stored.{files_of}
use Rattle.sig_core.specs.declared.slots.ControlSlot.{ControlSlot}
use Rattle.sysfile_core.specs.declared.place.TheConstants.{CONTROL_FILE}
use Rattle.sysfile_core.specs.Reading.{control_of_file}
use Rattle.sys_restart.specs.Groups.{is_listed}
use Rattle.sys_restart.specs.Latest.{same_shape}
use Rattle.sys_restart.proofs.FaultLemmas.{cause_after, slot_cause, slot_fault}
use Rattle.sys_restart.proofs.OwnLemmas.{under_fails, under_found, under_listed, under_unlisted}
use Rattle.sys_restart.proofs.own.own_under.Goals as goal

-- the node isn't listed
pub returns-then-not-lists-clause-read : goal.returns-then-not-lists-clause-read
returns-then-not-lists-clause-read g c = λ calls told.
    under_unlisted c.args.shape.now c.args.node (files_of calls) c.args.system.now
    (sym c.lists.ensures ∙ c.if-not-lists.true)

-- a control slot is in use
pub returns-in-Ok-Some-clause-read : goal.returns-in-Ok-Some-clause-read
returns-in-Ok-Some-clause-read g c =
    let system = c.args.system.now in
    let so : (same_shape system.shape c.args.shape.now && is_listed system.mask c.args.node) ≡ true =
    sym c.lists.ensures ∙ c.if-not-lists.false in
    λ calls told.
    under_found c.args.shape.now c.args.node (files_of calls) system c.in-Ok-Some.control c.own_in.result so
    (c.in-Ok-Some.ensures.read calls told ∙ ap Ok c.in-Ok-Some.field-0-is)
    (c.own_in.ensures.read calls (c.in-Ok-Some.ensures.unrecorded ∙ told))

pub returns-in-Ok-Some-clause-cause : goal.returns-in-Ok-Some-clause-cause
returns-in-Ok-Some-clause-cause g c =
    cause_after (g.D.Disk.faults c.args.disk.now) (g.D.Disk.faults c.read_control.new.disk)
    (g.D.Disk.faults c.own_in.new.disk) c.own_in.result c.in-Ok-Some.ensures.steady c.own_in.ensures.cause

-- none is
pub returns-in-Ok-None-clause-read : goal.returns-in-Ok-None-clause-read
returns-in-Ok-None-clause-read g c =
    let system = c.args.system.now in
    let so : (same_shape system.shape c.args.shape.now && is_listed system.mask c.args.node) ≡ true =
    sym c.lists.ensures ∙ c.if-not-lists.false in
    λ calls told.
    under_listed c.args.shape.now c.args.node (files_of calls) system (Ok None) so
    (c.in-Ok-None.ensures.read calls told ∙ ap Ok c.in-Ok-None.field-0-is)

-- it can't be read
pub returns-in-Err-clause-read : goal.returns-in-Err-clause-read
returns-in-Err-clause-read g c =
    let system = c.args.system.now in
    let so : (same_shape system.shape c.args.shape.now && is_listed system.mask c.args.node) ≡ true =
    sym c.lists.ensures ∙ c.if-not-lists.false in
    λ calls told.
    under_fails c.args.shape.now c.args.node (files_of calls) system c.in-Err.fault so
    (slot_fault (control_of_file system.generation (files_of calls CONTROL_FILE)) c.in-Err.fault
    (c.in-Err.ensures.read calls told))

pub returns-in-Err-clause-cause : goal.returns-in-Err-clause-cause
returns-in-Err-clause-cause g c =
    slot_cause ControlSlot (g.D.Disk.faults c.args.disk.now) (g.D.Disk.faults c.read_control.new.disk) c.in-Err.fault
    c.in-Err.ensures.cause
