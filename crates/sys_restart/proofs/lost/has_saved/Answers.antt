use Rattle.std.proofs.Common.{◌∙◌}
use Rattle.redo_log.specs.Stored.{files_of}
use Rattle.sysfile_core.specs.declared.place.TheConstants.{CONTROL_FILE}
use Rattle.sys_restart.proofs.LostLemmas.{saved_read}
use Rattle.sys_restart.proofs.PlacesLemmas.{count_after}
use Rattle.sys_restart.proofs.lost.has_saved.Goals as goal

pub returns-in-Ok-clause-read : goal.returns-in-Ok-clause-read
returns-in-Ok-clause-read g c = λ calls told.
    saved_read (files_of calls CONTROL_FILE) c.in-Ok.one c.saved_beside.result (c.in-Ok.ensures.read calls told)
    (c.saved_beside.ensures.read calls (c.in-Ok.ensures.unrecorded ∙ told))

pub returns-in-Ok-clause-cause : goal.returns-in-Ok-clause-cause
returns-in-Ok-clause-cause g c =
    count_after (g.D.Disk.faults c.args.disk.now) (g.D.Disk.faults c.saved_at.new.disk)
    (g.D.Disk.faults c.saved_beside.new.disk) c.saved_beside.result c.in-Ok.ensures.steady
    c.saved_beside.ensures.cause
