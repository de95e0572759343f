use Rattle.std.proofs.Common.{◌∙◌}
use Rattle.redo_log.specs.Stored.{files_of}
use Rattle.sysfile_core.specs.declared.place.TheConstants.{SYSTEM_FILE}
use Rattle.sys_restart.proofs.PlacesLemmas.{count_after, free_read}
use Rattle.sys_restart.proofs.places.free_system.Goals as goal

pub returns-in-Ok-clause-read : goal.returns-in-Ok-clause-read
returns-in-Ok-clause-read g c = λ calls told.
    free_read (files_of calls SYSTEM_FILE) c.in-Ok.one c.free_beside.result (c.in-Ok.ensures.read calls told)
    (c.free_beside.ensures.read calls (c.in-Ok.ensures.unrecorded ∙ told))

pub returns-in-Ok-clause-cause : goal.returns-in-Ok-clause-cause
returns-in-Ok-clause-cause g c =
    count_after (g.D.Disk.faults c.args.disk.now) (g.D.Disk.faults c.usable_system.new.disk)
    (g.D.Disk.faults c.free_beside.new.disk) c.free_beside.result c.in-Ok.ensures.steady c.free_beside.ensures.cause
