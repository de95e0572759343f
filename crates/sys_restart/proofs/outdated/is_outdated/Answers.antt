use Rattle.std.proofs.Common.{◌∙◌}
use Rattle.redo_log.specs.Stored.{files_of}
use Rattle.sysfile_core.specs.declared.place.TheConstants.{CONTROL_FILE}
use Rattle.sys_restart.proofs.OutdatedLemmas.{ahead_read}
use Rattle.sys_restart.proofs.PlacesLemmas.{count_after}
use Rattle.sys_restart.proofs.outdated.is_outdated.Goals as goal

pub returns-in-Ok-clause-read : goal.returns-in-Ok-clause-read
returns-in-Ok-clause-read g c = λ calls told.
    ahead_read c.args.system.now.generation c.args.system.now.epoch (files_of calls CONTROL_FILE) c.in-Ok.one
    c.ahead_beside.result (c.in-Ok.ensures.read calls told)
    (c.ahead_beside.ensures.read calls (c.in-Ok.ensures.unrecorded ∙ told))

pub returns-in-Ok-clause-cause : goal.returns-in-Ok-clause-cause
returns-in-Ok-clause-cause g c =
    count_after (g.D.Disk.faults c.args.disk.now) (g.D.Disk.faults c.usable_control.new.disk)
    (g.D.Disk.faults c.ahead_beside.new.disk) c.ahead_beside.result c.in-Ok.ensures.steady
    c.ahead_beside.ensures.cause
