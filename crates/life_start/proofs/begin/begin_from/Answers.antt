use Rattle.std.proofs.Common.{rules, ◌≡◌, ◌∙◌, ◌^◌, ◌<◌, false, List, length, map, ap, sym, subst}
use Rattle.std.specs.Prelude.{IfOk, Option}
use Rattle.host_io.specs.Call.{Call}
use Rattle.sys_restart.specs.Calls.{is_used_up}
use Rattle.sys_restart.specs.ReadyDisks.{AreReady}
use Rattle.sys_restart.proofs.DisksLemmas.{mapped}
use Rattle.sys_restart.proofs.TurnLemmas.{same_length}
use Rattle.life_start.specs.Records.{AllTellMore}
use Rattle.life_start.specs.Shapes.{HaveShape}
use Rattle.life_start.proofs.BeginLemmas.{where_begun, where_ok}
use Rattle.life_start.proofs.LackLemmas.{begins_if_ready}
use Rattle.life_start.proofs.ReadyRecords.{readied_more}
use Rattle.life_start.proofs.ShapeLemmas.{life_shaped}
use Rattle.life_start.proofs.begin.begin_from.Goals as goal

-- the disks are as they were made ready
pub returns-in-Ok-clause-ready : goal.returns-in-Ok-clause-ready
returns-in-Ok-clause-ready g c = λ records told may.
    where_ok (AreReady c.args.shape c.args.restored.now (map g.D.Disk.told c.start_with.new.disks)) c.start_with.result
    (subst (λ (told : List (Option (List Call))). AreReady c.args.shape c.args.restored.now told)
    (sym c.start_with.ensures.unrecorded)
    (c.in-Ok.ensures.ready records told may))

-- their system slots are of the shape: such were read for what was restored, and that which names the life is one
pub returns-in-Ok-clause-shapes : goal.returns-in-Ok-clause-shapes
returns-in-Ok-clause-shapes g c = λ records told may.
    let now = map g.D.Disk.told c.prepare_life.new.disks in
    let unused : is_used_up c.args.restored.now ≡ false = search rules in
    let fits : IfOk c.start_with.result (λ b. b.generation < 2 ^ 64) = search rules in
    where_begun (HaveShape c.args.shape (map g.D.Disk.told c.start_with.new.disks)) c.start_with.result
    c.args.restored.now (λ b. b.generation) (λ b. b.epoch) (λ b. b.rows.items) unused fits
    c.start_with.ensures.more c.start_with.ensures.begun
    (λ numbers.
    subst (HaveShape c.args.shape) (sym c.start_with.ensures.unrecorded)
    (life_shaped c.args.shape c.args.restored.now records now c.requires.shape numbers
    (sym (same_length g.D.Disk.told c.args.disks.now records told) ∙ c.requires.nodes) may c.in-Ok.field-0
    (c.in-Ok.ensures.runs records told unused)))

-- their records have only grown, whatever came of it
pub returns-in-Ok-clause-recorded : goal.returns-in-Ok-clause-recorded
returns-in-Ok-clause-recorded g c =
    let before = map g.D.Disk.told c.args.disks.now in
    let many : length c.prepare_life.new.disks ≡ length c.args.disks.now = search rules in
    subst (AllTellMore before) (sym c.start_with.ensures.unrecorded)
    (readied_more c.args.shape c.args.restored.now before (map g.D.Disk.told c.prepare_life.new.disks)
    c.prepare_life.result
    (mapped g.D.Disk.told c.prepare_life.new.disks ∙ many ∙ sym (mapped g.D.Disk.told c.args.disks.now))
    (λ used. ap (map g.D.Disk.told) (c.prepare_life.ensures.used_up used).1) c.prepare_life.ensures.runs)

pub returns-in-Err-clause-recorded : goal.returns-in-Err-clause-recorded
returns-in-Err-clause-recorded g c =
    let before = map g.D.Disk.told c.args.disks.now in
    let many : length c.prepare_life.new.disks ≡ length c.args.disks.now = search rules in
    readied_more c.args.shape c.args.restored.now before (map g.D.Disk.told c.prepare_life.new.disks)
    c.prepare_life.result
    (mapped g.D.Disk.told c.prepare_life.new.disks ∙ many ∙ sym (mapped g.D.Disk.told c.args.disks.now))
    (λ used. ap (map g.D.Disk.told) (c.prepare_life.ensures.used_up used).1) c.prepare_life.ensures.runs

-- disks that are ready lack no slots
pub returns-in-Ok-clause-unless : goal.returns-in-Ok-clause-unless
returns-in-Ok-clause-unless g c = λ records told may.
    let many : length c.prepare_life.new.disks ≡ c.args.shape.nodes = search rules in
    begins_if_ready c.args.shape c.args.restored.now (map g.D.Disk.told c.prepare_life.new.disks)
    (length c.prepare_life.new.disks) c.start_with.result (c.in-Ok.ensures.ready records told may) many
    c.start_with.ensures.lacking
