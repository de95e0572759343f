use Rattle.std.proofs.Common.{◌∙◌, ap, subst, sym}
use Rattle.std.specs.Prelude.{Result}
use Rattle.redo_log.specs.Stored.{files_of}
use Rattle.sig_core.specs.Table.{Rows}
use Rattle.sig_core.specs.declared.fault.RestartFault.{RestartFault}
use Rattle.sys_restart.specs.Answers.{ReadsAll, on_node}
use Rattle.sys_restart.specs.Groups.{if_held}
use Rattle.sys_restart.specs.SlotRows.{rows_of_slot}
use Rattle.sys_restart.proofs.FaultLemmas.{node_answer, node_reason}
use Rattle.sys_restart.proofs.groups.held_on.Goals as goal

-- the rows were read
pub returns-in-Ok-clause-read : goal.returns-in-Ok-clause-read
returns-in-Ok-clause-read g c =
    let node = c.args.node in
    let slot = c.args.slot.now in
    λ calls told.
    subst
    (λ (found : Result Rows RestartFault). ReadsAll (if_held c.args.shape.now node (files_of calls) slot found)
    c.if_held.result)
    (sym (ap (on_node node) (c.in-Ok.ensures.read calls told)))
    (c.if_held.ensures.read calls (c.in-Ok.ensures.unrecorded ∙ told))

-- they weren't
pub returns-in-Err-clause-read : goal.returns-in-Err-clause-read
returns-in-Err-clause-read g c =
    let node = c.args.node in
    λ calls told inside.
    ap (if_held c.args.shape.now node (files_of calls) c.args.slot.now)
    (node_answer (rows_of_slot c.args.epoch (files_of calls) c.args.slot.now) node c.in-Err.fault
    c.of_node.result c.of_node.ensures (c.in-Err.ensures.read calls told) inside)

pub returns-in-Err-clause-cause : goal.returns-in-Err-clause-cause
returns-in-Err-clause-cause g c =
    node_reason c.args.node (g.D.Disk.faults c.args.disk.now) (g.D.Disk.faults c.rows_of_slot.new.disk)
    c.in-Err.fault c.of_node.result c.of_node.ensures c.in-Err.ensures.cause
