use Rattle.std.proofs.Common.{◌≡◌, ◌==◌, false, refl, arith}
use Rattle.std.specs.Prelude.{is_ok}
use Rattle.std.proofs.lemmas.Bool.{ne_eqb}
use Rattle.redo_log.specs.Stored.{files_of}
use Rattle.sysfile_core.specs.declared.place.TheConstants.{CONTROL_FILE}
use Rattle.sys_restart.specs.Calls.{control_calls, file_calls}
use Rattle.sys_restart.proofs.PieceLemmas.{rose_after, runs_stop}
use Rattle.sys_restart.proofs.PrepareLemmas.{file_made}
use Rattle.sys_restart.proofs.prepare.write_node.Goals as goal

-- the checkpoint was written
pub returns-in-Ok-clause-runs : goal.returns-in-Ok-clause-runs
returns-in-Ok-clause-runs g c =
    let slot = c.args.slot.now in
    let apart : (slot.ckpt_file == CONTROL_FILE) ≡ false =
    ne_eqb slot.ckpt_file CONTROL_FILE (λ same. absurd (omega (arith, same, c.requires.file))) in
    λ calls told.
    file_made c.args.node slot.ckpt_file c.args.which slot c.args.bytes.now calls
    (g.D.Disk.told c.write_file.new.disk) (g.D.Disk.told c.write_control.new.disk) (is_ok c.write_control.result)
    apart refl (c.in-Ok.ensures.runs calls told) c.write_control.ensures.runs

pub returns-in-Ok-clause-cause : goal.returns-in-Ok-clause-cause
returns-in-Ok-clause-cause g c =
    rose_after c.write_control.result (g.D.Disk.faults c.args.disk.now) (g.D.Disk.faults c.write_file.new.disk)
    (g.D.Disk.faults c.write_control.new.disk) c.in-Ok.ensures.steady c.write_control.ensures.cause

-- it wasn't
pub returns-in-Err-clause-runs : goal.returns-in-Err-clause-runs
returns-in-Err-clause-runs g c = λ calls told.
    let slot = c.args.slot.now in
    runs_stop (file_calls slot.ckpt_file c.args.bytes.now)
    (control_calls c.args.node (files_of calls CONTROL_FILE) c.args.which slot) calls
    (g.D.Disk.told c.write_file.new.disk) (c.in-Err.ensures.runs calls told)
