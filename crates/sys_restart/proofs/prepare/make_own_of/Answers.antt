use Rattle.std.proofs.Common.{◌+◌, ◌<◌, arith}
use Rattle.std.specs.Prelude.{is_ok}
use Rattle.redo_log.specs.Stored.{files_of}
use Rattle.sysfile_core.specs.declared.control.TheConstants.{CONTROL_BYTES}
use Rattle.sysfile_core.specs.declared.place.TheConstants.{CONTROL_FILE}
use Rattle.sysfile_core.specs.Places.{place_of}
use Rattle.sys_restart.proofs.PrepareLemmas.{closed_made, closing_stops}
use Rattle.sys_restart.proofs.prepare.make_own_of.Goals as goal

-- the gate was closed
pub returns-in-Ok-clause-runs : goal.returns-in-Ok-clause-runs
returns-in-Ok-clause-runs g c =
    let short : c.args.size < place_of 1 + CONTROL_BYTES =
    omega (arith, c.if-size-place_of.false, c.place_of.ensures.value) in
    λ calls told.
    closed_made c.args.node c.args.size calls (g.D.Disk.told c.close_second.new.disk)
    (g.D.Disk.told c.write_owner-in-Ok.new.disk) (is_ok c.write_owner-in-Ok.result) short
    (c.in-Ok.ensures.runs calls told) c.write_owner-in-Ok.ensures.runs

-- it wasn't
pub returns-in-Err-clause-runs : goal.returns-in-Err-clause-runs
returns-in-Err-clause-runs g c =
    let short : c.args.size < place_of 1 + CONTROL_BYTES =
    omega (arith, c.if-size-place_of.false, c.place_of.ensures.value) in
    λ calls told.
    closing_stops c.args.node c.args.size (files_of calls CONTROL_FILE) calls (g.D.Disk.told c.close_second.new.disk)
    short (c.in-Err.ensures.runs calls told)
