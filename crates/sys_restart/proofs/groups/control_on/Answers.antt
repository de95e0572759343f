use Rattle.std.proofs.Common.{◌≡◌, ◌∙◌, true, ap, sym}
use Rattle.std.specs.Prelude.{Err, Ok}
use Rattle.redo_log.specs.Stored.{files_of}
use Rattle.sig_core.specs.declared.slots.ControlSlot.{ControlSlot}
use Rattle.sysfile_core.specs.declared.place.TheConstants.{CONTROL_FILE}
use Rattle.sysfile_core.specs.Reading.{control_of_file}
use Rattle.sys_restart.specs.Answers.{on_node}
use Rattle.sys_restart.specs.Groups.{is_listed}
use Rattle.sys_restart.proofs.FaultLemmas.{node_answer, node_reason, slot_cause, slot_fault}
use Rattle.sys_restart.proofs.GroupsLemmas.{control_listed, control_unlisted}
use Rattle.sys_restart.proofs.groups.control_on.Goals as goal

-- the node isn't listed
pub returns-then-not-is_listed-clause-read : goal.returns-then-not-is_listed-clause-read
returns-then-not-is_listed-clause-read g c = λ calls told.
    control_unlisted c.args.system.now c.args.node (files_of calls)
    (sym c.is_listed.ensures ∙ c.if-not-is_listed.true)

-- it is
pub returns-in-Ok-clause-read : goal.returns-in-Ok-clause-read
returns-in-Ok-clause-read g c =
    let so : is_listed c.args.system.now.mask c.args.node ≡ true =
    sym c.is_listed.ensures ∙ c.if-not-is_listed.false in
    λ calls told.
    control_listed c.args.system.now c.args.node (files_of calls) (Ok c.in-Ok.slot) so
    (ap (on_node c.args.node) (c.in-Ok.ensures.read calls told))
    ∙ ap Ok (sym c.that_saved.ensures.value)

pub returns-in-Err-clause-read : goal.returns-in-Err-clause-read
returns-in-Err-clause-read g c =
    let so : is_listed c.args.system.now.mask c.args.node ≡ true =
    sym c.is_listed.ensures ∙ c.if-not-is_listed.false in
    λ calls told inside.
    let found = control_of_file c.args.system.now.generation (files_of calls CONTROL_FILE) in
    control_listed c.args.system.now c.args.node (files_of calls) (Err c.of_node.result) so
    (node_answer found c.args.node c.in-Err.fault c.of_node.result c.of_node.ensures
    (slot_fault found c.in-Err.fault (c.in-Err.ensures.read calls told)) inside)

pub returns-in-Err-clause-cause : goal.returns-in-Err-clause-cause
returns-in-Err-clause-cause g c =
    let before = g.D.Disk.faults c.args.disk.now in
    let now = g.D.Disk.faults c.read_control.new.disk in
    node_reason c.args.node before now c.in-Err.fault c.of_node.result c.of_node.ensures
    (slot_cause ControlSlot before now c.in-Err.fault c.in-Err.ensures.cause)
