use Rattle.std.proofs.Common.{◌∙◌, true, false, refl, ap}
use Rattle.sysfile_core.specs.Slots.{system_bytes}
use Rattle.sys_restart.proofs.PrepareLemmas.{name_made}
use Rattle.sys_restart.proofs.name.name_at.Goals as goal

pub returns-in-Ok-clause-runs : goal.returns-in-Ok-clause-runs
returns-in-Ok-clause-runs g c = λ calls told is.
    name_made calls c.args.shape c.args.restored.now c.args.which c.system_bytes.result
    (g.D.Disk.told c.write_slot.new.disk) true is (c.system_bytes.ensures ∙ ap system_bytes c.next_system-slot.ensures)
    (c.in-Ok.ensures.runs calls told)

pub returns-in-Err-clause-runs : goal.returns-in-Err-clause-runs
returns-in-Err-clause-runs g c = λ calls told is.
    name_made calls c.args.shape c.args.restored.now c.args.which c.system_bytes.result
    (g.D.Disk.told c.write_slot.new.disk) false is
    (c.system_bytes.ensures ∙ ap system_bytes c.next_system-slot.ensures) (c.in-Err.ensures.runs calls told)

pub returns-in-Err-clause-cause : goal.returns-in-Err-clause-cause
returns-in-Err-clause-cause g c = (refl, c.in-Err.ensures.cause, c.faults.ensures)
