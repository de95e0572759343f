use Rattle.std.proofs.Common.{rules, ◌∙◌, ap}
use Rattle.host_io.specs.DiskState.{state_of}
use Rattle.sysfile_core.specs.declared.place.TheConstants.{SYSTEM_FILE}
use Rattle.sysfile_core.specs.Reading.{system_in}
use Rattle.sysfile_core.proofs.FoundLemmas.{system_found}
use Rattle.sysfile_core.proofs.read.system_at.Goals as goal

-- bytes that are read are no fault of the disk
pub returns-in-Ok-true-clause-cause : goal.returns-in-Ok-true-clause-cause
returns-in-Ok-true-clause-cause g c =
    c.system_in.ensures.cause (g.D.Disk.faults c.args.disk.now) (g.D.Disk.faults c.read_slot.new.disk)

-- an open slot is read
pub returns-in-Ok-true-clause-read : goal.returns-in-Ok-true-clause-read
returns-in-Ok-true-clause-read g c = λ calls told.
    system_found (state_of calls SYSTEM_FILE).bytes c.read_slot.new.bytes c.args.which c.place_of.result _
    c.in-Ok-true.field-0
    c.system_in.result c.place_of.ensures.value (search rules) (c.in-Ok-true.ensures.slot calls told)
    c.in-Ok-true.field-0-test
    (c.system_in.ensures.told ∙ ap (λ at. system_in at c.read_slot.new.bytes) c.place_of-in-Ok-true.ensures.value)
    c.system_in.ensures.cause
