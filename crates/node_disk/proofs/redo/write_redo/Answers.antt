use Rattle.std.proofs.Common.{◌≡◌, ◌+◌, ◌-◌, ℕ, length, subst, arith}
use Rattle.std.specs.Prelude.{is_ok}
use Rattle.sysfile_core.specs.Runs.{Runs}
use Rattle.sysfile_core.proofs.DiskLemmas.{runs_then}
use Rattle.sys_restart.proofs.PieceLemmas.{rose_after, runs_stop}
use Rattle.node_disk.specs.Saving.{piece_calls, sync_calls}
use Rattle.node_disk.proofs.redo.write_redo.Goals as goal

-- the pieces were written
pub returns-in-Ok-clause-runs : goal.returns-in-Ok-clause-runs
returns-in-Ok-clause-runs g c =
    let bytes = c.args.bytes.now in
    let end = c.args.from + length bytes in
    let size : end - c.args.from ≡ length bytes = omega arith in
    λ calls told.
    runs_then (piece_calls (length bytes) c.args.parity c.args.from bytes)
    (sync_calls (length bytes) c.args.parity c.args.from end) calls (g.D.Disk.told c.write_pieces.new.disk)
    (g.D.Disk.told c.sync_files.new.disk) (is_ok c.sync_files.result) (c.in-Ok.ensures.runs calls told)
    (λ after made.
    subst
    (λ (n : ℕ). Runs (sync_calls n c.args.parity c.args.from end) after (g.D.Disk.told c.sync_files.new.disk)
    (is_ok c.sync_files.result)) size (c.sync_files.ensures.runs after made))

pub returns-in-Ok-clause-cause : goal.returns-in-Ok-clause-cause
returns-in-Ok-clause-cause g c =
    rose_after c.sync_files.result (g.D.Disk.faults c.args.disk.now) (g.D.Disk.faults c.write_pieces.new.disk)
    (g.D.Disk.faults c.sync_files.new.disk) c.in-Ok.ensures.steady c.sync_files.ensures.cause

-- they weren't
pub returns-in-Err-clause-runs : goal.returns-in-Err-clause-runs
returns-in-Err-clause-runs g c = λ calls told.
    let bytes = c.args.bytes.now in
    runs_stop (piece_calls (length bytes) c.args.parity c.args.from bytes)
    (sync_calls (length bytes) c.args.parity c.args.from (c.args.from + length bytes)) calls
    (g.D.Disk.told c.write_pieces.new.disk) (c.in-Err.ensures.runs calls told)
