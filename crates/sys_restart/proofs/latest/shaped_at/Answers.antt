use Rattle.std.proofs.Common.{sym, subst}
use Rattle.std.specs.Prelude.{Option, Result}
use Rattle.redo_log.specs.Stored.{files_of}
use Rattle.sig_core.specs.declared.fault.RestartFault.{RestartFault}
use Rattle.sig_core.specs.declared.slots.SystemSlot.{SystemSlot}
use Rattle.sysfile_core.specs.declared.place.TheConstants.{SYSTEM_FILE}
use Rattle.sysfile_core.specs.Reading.{system_at}
use Rattle.sys_restart.specs.Answers.{HasCauseOf, ReadsAll}
use Rattle.sys_restart.specs.Latest.{of_shape}
use Rattle.sys_restart.proofs.LatestLemmas.{shaped_cause, shaped_reads}
use Rattle.sys_restart.proofs.latest.shaped_at.Goals as goal

pub returns-clause-read : goal.returns-clause-read
returns-clause-read g c = λ calls told.
    let found = system_at c.args.which (files_of calls SYSTEM_FILE) in
    subst
    (λ (answer : Result (Option SystemSlot) RestartFault). ReadsAll (of_shape c.args.shape c.args.node found) answer)
    (sym c.of_shape.ensures)
    (shaped_reads c.args.shape c.args.node found c.system_at.result (c.system_at.ensures.read calls told))

pub returns-clause-cause : goal.returns-clause-cause
returns-clause-cause g c =
    let before = g.D.Disk.faults c.args.disk.now in
    let now = g.D.Disk.faults c.system_at.new.disk in
    subst (λ (answer : Result (Option SystemSlot) RestartFault). HasCauseOf c.args.node before now answer)
    (sym c.of_shape.ensures)
    (shaped_cause c.args.shape c.args.node before now c.system_at.result c.system_at.ensures.cause)
