use Rattle.redo_log.specs.Stored.{files_of}
use Rattle.sysfile_core.specs.declared.place.TheConstants.{SYSTEM_FILE}
use Rattle.sysfile_core.specs.Reading.{system_at}
use Rattle.sys_restart.proofs.PlacesLemmas.{usable_cause, usable_reads}
use Rattle.sys_restart.proofs.places.usable_system.Goals as goal

pub returns-clause-read : goal.returns-clause-read
returns-clause-read g c = λ calls told.
    usable_reads (system_at c.args.which (files_of calls SYSTEM_FILE)) c.system_at.result c.usable.result
    (c.system_at.ensures.read calls told) c.usable.ensures

pub returns-clause-cause : goal.returns-clause-cause
returns-clause-cause g c =
    usable_cause (g.D.Disk.faults c.args.disk.now) (g.D.Disk.faults c.system_at.new.disk) c.system_at.result
    c.usable.result c.system_at.ensures.cause c.usable.ensures
