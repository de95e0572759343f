use Rattle.std.proofs.Common.{◌≡◌, ◌∙◌, map, sym, subst}
use Rattle.std.specs.Prelude.{false, IfErr, OnOk}
use Rattle.sys_restart.specs.Answers.{is_outside}
use Rattle.sys_restart.specs.declared.restored.Restored.{Restored}
use Rattle.sys_restart.specs.Files.{disks_of}
use Rattle.sys_restart.specs.ReadyDisks.{AreReady, AreToPrepare}
use Rattle.sys_restart.specs.Restored.{restored_of}
use Rattle.life_start.specs.Refusals.{IsUsedUpBy}
use Rattle.life_start.proofs.BeginLemmas.{has_begun, same_answer}
use Rattle.life_start.proofs.RefusalLemmas.{none_begins}
use Rattle.life_start.proofs.begin.begin_settled.Goals as goal

-- it begins with what was restored, and there is an epoch behind that
pub returns-in-Ok-clause-begun : goal.returns-in-Ok-clause-begun
returns-in-Ok-clause-begun g c = λ records told.
    has_begun c.args.shape (disks_of records) c.in-Ok.restored c.begin_from.result (λ b. b.generation) (λ b. b.epoch)
    (λ b. b.rows.items) (c.in-Ok.ensures.read records told) c.begin_from.ensures.begun c.begin_from.ensures.more

-- what may be prepared is what was restored
pub returns-in-Ok-clause-ready : goal.returns-in-Ok-clause-ready
returns-in-Ok-clause-ready g c = λ records restored told may.
    let same : c.in-Ok.restored ≡ restored =
    same_answer c.in-Ok.restored restored (restored_of c.args.shape (disks_of records))
    (c.in-Ok.ensures.read records told) may.restored in
    subst
    (λ (r : Restored). OnOk c.begin_from.result (AreReady c.args.shape r (map g.D.Disk.told c.begin_from.new.disks)))
    same
    (c.begin_from.ensures.ready records (c.in-Ok.ensures.unrecorded ∙ told)
    (subst (λ (r : Restored). AreToPrepare c.args.shape r records) (sym same) may))

-- no life begins behind what was restored
pub returns-in-Ok-clause-refused : goal.returns-in-Ok-clause-refused
returns-in-Ok-clause-refused g c = λ records told.
    none_begins c.args.shape (disks_of records) c.in-Ok.restored (map g.D.Disk.told c.begin_from.new.disks)
    c.begin_from.result (c.in-Ok.ensures.read records told)
    (c.begin_from.ensures.none records (c.in-Ok.ensures.unrecorded ∙ told))

-- what may be prepared is what was restored, here too
pub returns-in-Ok-clause-unless : goal.returns-in-Ok-clause-unless
returns-in-Ok-clause-unless g c = λ records restored told may.
    let same : c.in-Ok.restored ≡ restored =
    same_answer c.in-Ok.restored restored (restored_of c.args.shape (disks_of records))
    (c.in-Ok.ensures.read records told) may.restored in
    subst
    (λ (r : Restored). IfErr c.begin_from.result (λ fault. is_outside fault ≡ false → IsUsedUpBy r fault)) same
    (c.begin_from.ensures.unless records (c.in-Ok.ensures.unrecorded ∙ told)
    (subst (λ (r : Restored). AreToPrepare c.args.shape r records) (sym same) may))

-- and the slots of such disks are of the shape
pub returns-in-Ok-clause-shapes : goal.returns-in-Ok-clause-shapes
returns-in-Ok-clause-shapes g c = λ records restored told may.
    let same : c.in-Ok.restored ≡ restored =
    same_answer c.in-Ok.restored restored (restored_of c.args.shape (disks_of records))
    (c.in-Ok.ensures.read records told) may.restored in
    c.begin_from.ensures.shapes records (c.in-Ok.ensures.unrecorded ∙ told)
    (subst (λ (r : Restored). AreToPrepare c.args.shape r records) (sym same) may)
