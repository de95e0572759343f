use Rattle.std.proofs.Common.{◌∙◌, ap, sym}
use Rattle.redo_log.specs.Stored.{files_of}
use Rattle.sysfile_core.specs.declared.place.TheConstants.{CONTROL_FILE}
use Rattle.sysfile_core.specs.Reading.{control_at}
use Rattle.sys_restart.specs.Lost.{was_saved}
use Rattle.sys_restart.proofs.PlacesLemmas.{count_is, usable_is}
use Rattle.sys_restart.proofs.lost.saved_at.Goals as goal

pub returns-in-Ok-clause-read : goal.returns-in-Ok-clause-read
returns-in-Ok-clause-read g c = λ calls told.
    let found = control_at c.args.which (files_of calls CONTROL_FILE) in
    c.was_saved.ensures
    ∙ ap was_saved
    (usable_is found c.control_at.result c.in-Ok.slot (c.control_at.ensures.read calls told) (sym c.in-Ok.ensures))

pub returns-in-Err-clause-cause : goal.returns-in-Err-clause-cause
returns-in-Err-clause-cause g c =
    count_is (g.D.Disk.faults c.args.disk.now) (g.D.Disk.faults c.control_at.new.disk) c.in-Err.count
    c.control_at.result c.control_at.ensures.cause (sym c.in-Err.ensures)
