use Rattle.std.proofs.Common.{[], ◌∷◌, length}
use Rattle.std.specs.Prelude.{is_ok}
use Rattle.host_io.specs.Call.{Synced}
use Rattle.sysfile_core.proofs.DiskLemmas.{runs_then}
use Rattle.sys_restart.specs.Calls.{piece_calls}
use Rattle.sys_restart.proofs.PieceLemmas.{rose_after, runs_stop, sync_runs}
use Rattle.sys_restart.proofs.prepare.write_file.Goals as goal

-- the bytes were written
pub returns-in-Ok-clause-runs : goal.returns-in-Ok-clause-runs
returns-in-Ok-clause-runs g c = λ calls told.
    let bytes = c.args.bytes.now in
    runs_then (piece_calls (length bytes) c.args.file 0 bytes) (Synced c.args.file ∷ []) calls
    (g.D.Disk.told c.write_pieces.new.disk) (g.D.Disk.told c.sync.new.self) (is_ok c.sync.result)
    (c.in-Ok.ensures.runs calls told)
    (λ after made.
    sync_runs c.args.file after (g.D.Disk.told c.sync.new.self) (is_ok c.sync.result)
    (c.sync.ensures.synced after made))

pub returns-in-Ok-clause-cause : goal.returns-in-Ok-clause-cause
returns-in-Ok-clause-cause g c =
    rose_after c.sync.result (g.D.Disk.faults c.args.disk.now) (g.D.Disk.faults c.write_pieces.new.disk)
    (g.D.Disk.faults c.sync.new.self) c.in-Ok.ensures.steady c.sync.ensures.cause

-- they weren't
pub returns-in-Err-clause-runs : goal.returns-in-Err-clause-runs
returns-in-Err-clause-runs g c = λ calls told.
    let bytes = c.args.bytes.now in
    runs_stop (piece_calls (length bytes) c.args.file 0 bytes) (Synced c.args.file ∷ []) calls
    (g.D.Disk.told c.write_pieces.new.disk) (c.in-Err.ensures.runs calls told)
