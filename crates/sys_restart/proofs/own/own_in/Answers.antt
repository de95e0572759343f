use Rattle.std.proofs.Common.{◌≡◌, ◌∙◌, ◌==◌, true, sym, subst}
use Rattle.std.specs.Prelude.{Ok, Option, Result}
use Rattle.redo_log.specs.Stored.{files_of}
use Rattle.sig_core.specs.declared.fault.ReadFault.{ReadFault}
use Rattle.sig_core.specs.declared.slots.Own.{Own}
use Rattle.sys_restart.specs.Answers.{Reads}
use Rattle.sys_restart.proofs.OwnLemmas.{own_other, own_same, own_same_fails}
use Rattle.sys_restart.proofs.own.own_in.Goals as goal

-- the control slot was saved at another epoch
pub returns-then-not-is_saved_at-clause-read : goal.returns-then-not-is_saved_at-clause-read
returns-then-not-is_saved_at-clause-read g c = λ calls told.
    own_other c.args.system.now (files_of calls) c.args.control.now
    (sym c.is_saved_at.ensures ∙ c.if-not-is_saved_at.true)

-- it was saved at this one
pub returns-in-Ok-clause-read : goal.returns-in-Ok-clause-read
returns-in-Ok-clause-read g c =
    let so : (c.args.control.now.saved == c.args.system.now.epoch) ≡ true =
    sym c.is_saved_at.ensures ∙ c.if-not-is_saved_at.false in
    λ calls told.
    subst (λ (all : Result (Option Own) ReadFault). Reads all c.own_with.result)
    (sym (own_same c.args.system.now (files_of calls) c.args.control.now (Ok c.in-Ok.rows) so
    (c.in-Ok.ensures.read calls told)))
    c.own_with.ensures.read

pub returns-in-Ok-clause-cause : goal.returns-in-Ok-clause-cause
returns-in-Ok-clause-cause g c =
    c.own_with.ensures.cause (g.D.Disk.faults c.args.disk.now) (g.D.Disk.faults c.rows_of_slot.new.disk)

pub returns-in-Err-clause-read : goal.returns-in-Err-clause-read
returns-in-Err-clause-read g c =
    let so : (c.args.control.now.saved == c.args.system.now.epoch) ≡ true =
    sym c.is_saved_at.ensures ∙ c.if-not-is_saved_at.false in
    λ calls told.
    own_same_fails c.args.system.now (files_of calls) c.args.control.now c.in-Err.fault so
    (c.in-Err.ensures.read calls told)
