use Rattle.redo_log.specs.Stored.{files_of}
use Rattle.sys_restart.proofs.LogHeld.{log_held}
use Rattle.sys_restart.proofs.held.is_log_held.Goals as goal

pub returns-clause-read : goal.returns-clause-read
returns-clause-read g c = λ calls told.
    log_held c.args.shape.now c.args.node (files_of calls) c.args.slot.now c.in_ok-bytes.bytes.items
    c.deref.result.now c.are_records_held.result (c.in_ok-bytes.ensures.stored calls told) c.deref.ensures.value
    c.are_records_held.ensures
