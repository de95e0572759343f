use Rattle.std.proofs.Common.{◌∙◌}
use Rattle.redo_log.specs.Stored.{files_of}
use Rattle.sysfile_core.specs.declared.place.TheConstants.{SYSTEM_FILE}
use Rattle.sysfile_core.specs.Reading.{system_at}
use Rattle.sys_restart.specs.Latest.{of_shape}
use Rattle.sys_restart.proofs.LatestLemmas.{cause_of_after, later_after, later_stops}
use Rattle.sys_restart.proofs.latest.latest_on.Goals as goal

pub returns-in-Ok-clause-read : goal.returns-in-Ok-clause-read
returns-in-Ok-clause-read g c = λ calls told.
    let file = files_of calls SYSTEM_FILE in
    later_after (of_shape c.args.shape c.args.node (system_at 0 file))
    (of_shape c.args.shape c.args.node (system_at 1 file)) c.later_on.result c.in-Ok.one
    (c.in-Ok.ensures.read calls told)
    (c.later_on.ensures.read calls (c.in-Ok.ensures.unrecorded ∙ told))

pub returns-in-Ok-clause-cause : goal.returns-in-Ok-clause-cause
returns-in-Ok-clause-cause g c =
    cause_of_after c.args.node (g.D.Disk.faults c.args.disk.now) (g.D.Disk.faults c.shaped_at.new.disk)
    (g.D.Disk.faults c.later_on.new.disk) c.later_on.result c.in-Ok.ensures.steady c.later_on.ensures.cause

pub returns-in-Err-clause-read : goal.returns-in-Err-clause-read
returns-in-Err-clause-read g c = λ calls told.
    let file = files_of calls SYSTEM_FILE in
    later_stops (of_shape c.args.shape c.args.node (system_at 0 file))
    (of_shape c.args.shape c.args.node (system_at 1 file)) c.in-Err.fault (c.in-Err.ensures.read calls told)
