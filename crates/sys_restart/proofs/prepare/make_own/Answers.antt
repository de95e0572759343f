use Rattle.std.proofs.Common.{◌∙◌, length, subst}
use Rattle.std.specs.Prelude.{is_ok}
use Rattle.redo_log.specs.Stored.{files_of}
use Rattle.sysfile_core.specs.declared.place.TheConstants.{CONTROL_FILE}
use Rattle.sysfile_core.specs.Runs.{Runs}
use Rattle.sys_restart.specs.Calls.{own_calls}
use Rattle.sys_restart.proofs.PieceLemmas.{rose_after}
use Rattle.sys_restart.proofs.PrepareLemmas.{none_owned}
use Rattle.sys_restart.proofs.prepare.make_own.Goals as goal

-- the size of the file was read
pub returns-in-Ok-clause-runs : goal.returns-in-Ok-clause-runs
returns-in-Ok-clause-runs g c = λ calls told.
    subst
    (λ size. Runs (own_calls c.args.node size (files_of calls CONTROL_FILE)) calls
    (g.D.Disk.told c.make_own_of.new.disk) (is_ok c.make_own_of.result))
    (c.in-Ok.ensures.bytes calls told)
    (c.make_own_of.ensures.runs calls (c.in-Ok.ensures.unrecorded ∙ told))

pub returns-in-Ok-clause-cause : goal.returns-in-Ok-clause-cause
returns-in-Ok-clause-cause g c =
    rose_after c.make_own_of.result (g.D.Disk.faults c.args.disk.now) (g.D.Disk.faults c.size.new.self)
    (g.D.Disk.faults c.make_own_of.new.disk) c.in-Ok.ensures.steady c.make_own_of.ensures.cause

-- it wasn't
pub returns-in-Err-clause-runs : goal.returns-in-Err-clause-runs
returns-in-Err-clause-runs g c = λ calls told.
    none_owned c.args.node (length (files_of calls CONTROL_FILE)) (files_of calls CONTROL_FILE) calls
    (g.D.Disk.told c.size.new.self) (c.in-Err.ensures.unrecorded ∙ told)
