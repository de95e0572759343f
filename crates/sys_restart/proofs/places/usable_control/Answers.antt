use Rattle.std.proofs.Common.{sym}
use Rattle.redo_log.specs.Stored.{files_of}
use Rattle.sysfile_core.specs.declared.place.TheConstants.{CONTROL_FILE}
use Rattle.sysfile_core.specs.Reading.{control_at}
use Rattle.sys_restart.specs.Places.{usable}
use Rattle.sys_restart.proofs.PlacesLemmas.{count_is, of_this, usable_is}
use Rattle.sys_restart.proofs.places.usable_control.Goals as goal

pub returns-in-Ok-clause-read : goal.returns-in-Ok-clause-read
returns-in-Ok-clause-read g c = λ calls told.
    let found = control_at c.args.which (files_of calls CONTROL_FILE) in
    of_this c.args.generation (usable found) c.in-Ok.slot c.of_generation.result
    (usable_is found c.control_at.result c.in-Ok.slot (c.control_at.ensures.read calls told) (sym c.in-Ok.ensures))
    c.of_generation.ensures.value

pub returns-in-Err-clause-cause : goal.returns-in-Err-clause-cause
returns-in-Err-clause-cause g c =
    count_is (g.D.Disk.faults c.args.disk.now) (g.D.Disk.faults c.control_at.new.disk) c.in-Err.count
    c.control_at.result c.control_at.ensures.cause (sym c.in-Err.ensures)
