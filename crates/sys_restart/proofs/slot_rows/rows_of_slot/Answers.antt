use Rattle.std.proofs.Common.{◌∙◌, ◌-◌}
use Rattle.std.specs.Prelude.{Err, Ok}
use Rattle.redo_log.specs.Stored.{files_of}
use Rattle.sys_restart.proofs.FaultLemmas.{cause_behind, redo_cause}
use Rattle.sys_restart.proofs.OwnLemmas.{slot_fails, slot_reads}
use Rattle.sys_restart.proofs.RedoneLemmas.{redone_reads}
use Rattle.sys_restart.proofs.slot_rows.rows_of_slot.Goals as goal

-- the checkpoint and its redo were read
pub returns-in-Ok-replay-clause-read : goal.returns-in-Ok-replay-clause-read
returns-in-Ok-replay-clause-read g c = λ calls told.
    let slot = c.args.slot.now in
    slot_reads c.args.epoch (files_of calls) slot c.in-Ok.rows c.replay.new.rows (Ok c.in-Ok-replay.field-0)
    (c.in-Ok.ensures.read calls told)
    (redone_reads c.args.epoch c.in-Ok.rows (files_of calls) slot.parity slot.redo_start
    (slot.redo_end - slot.redo_start)
    c.replay.new.rows (Ok c.in-Ok-replay.field-0)
    (c.in-Ok-replay.ensures.replayed calls (c.in-Ok.ensures.unrecorded ∙ told)))

-- the redo wasn't
pub returns-in-Err-replay-clause-read : goal.returns-in-Err-replay-clause-read
returns-in-Err-replay-clause-read g c = λ calls told.
    let slot = c.args.slot.now in
    slot_reads c.args.epoch (files_of calls) slot c.in-Ok.rows c.replay.new.rows (Err c.in-Err-replay.fault)
    (c.in-Ok.ensures.read calls told)
    (redone_reads c.args.epoch c.in-Ok.rows (files_of calls) slot.parity slot.redo_start
    (slot.redo_end - slot.redo_start)
    c.replay.new.rows (Err c.in-Err-replay.fault)
    (c.in-Err-replay.ensures.replayed calls (c.in-Ok.ensures.unrecorded ∙ told)))

-- neither was the checkpoint
pub returns-in-Err-clause-read : goal.returns-in-Err-clause-read
returns-in-Err-clause-read g c = λ calls told.
    slot_fails c.args.epoch (files_of calls) c.args.slot.now c.in-Err.fault (c.in-Err.ensures.read calls told)

pub returns-in-Err-replay-clause-cause : goal.returns-in-Err-replay-clause-cause
returns-in-Err-replay-clause-cause g c =
    let first = g.D.Disk.faults c.args.disk.now in
    let before = g.D.Disk.faults c.read_rows.new.disk in
    let now = g.D.Disk.faults c.replay.new.disk in
    cause_behind first before now c.in-Err-replay.fault c.in-Ok.ensures.steady
    (redo_cause before now c.in-Ok.rows c.replay.new.rows c.in-Err-replay.fault c.in-Err-replay.ensures.cause)
