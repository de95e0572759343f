use Rattle.std.proofs.Common.{rules, ◌≡◌, ◌∙◌, length, map, sym, subst}
use Rattle.std.specs.Prelude.{false, IfErr, IfOk}
use Rattle.std.proofs.lemmas.Bool.{true≢false}
use Rattle.sys_restart.specs.Answers.{is_outside}
use Rattle.sys_restart.specs.Settle.{settled_records, sync_calls}
use Rattle.sys_restart.proofs.DisksLemmas.{answer_then, mapped, steady_then}
use Rattle.sys_restart.proofs.SettleLemmas.{fault_outside, settled_disks, settled_to_prepare}
use Rattle.life_start.specs.Begun.{HasBegun}
use Rattle.life_start.specs.Refusals.{IsRefusedFor}
use Rattle.life_start.proofs.ReadyRecords.{asked_more}
use Rattle.life_start.proofs.RecordLemmas.{all_then}
use Rattle.life_start.proofs.begin.begin_life.Goals as goal

-- settled disks say what they said before
pub returns-in-Ok-clause-begun : goal.returns-in-Ok-clause-begun
returns-in-Ok-clause-begun g c = λ records told.
    subst
    (λ disks. IfOk c.begin_settled.result (λ b. HasBegun c.args.shape disks b.generation b.epoch b.rows.items))
    (settled_disks records)
    (c.begin_settled.ensures.begun (settled_records records) (c.in-Ok.ensures.settled records told))

pub returns-in-Ok-clause-refused : goal.returns-in-Ok-clause-refused
returns-in-Ok-clause-refused g c = λ records told.
    subst
    (λ disks. IfErr c.begin_settled.result
    (λ fault. is_outside fault ≡ false
    → IsRefusedFor c.args.shape disks (map g.D.Disk.told c.begin_settled.new.disks) fault))
    (settled_disks records)
    (c.begin_settled.ensures.refused (settled_records records) (c.in-Ok.ensures.settled records told))

-- and may be prepared if they might before
pub returns-in-Ok-clause-ready : goal.returns-in-Ok-clause-ready
returns-in-Ok-clause-ready g c = λ records restored told may.
    c.begin_settled.ensures.ready (settled_records records) restored (c.in-Ok.ensures.settled records told)
    (settled_to_prepare c.args.shape restored records may)

pub returns-in-Ok-clause-shapes : goal.returns-in-Ok-clause-shapes
returns-in-Ok-clause-shapes g c = λ records restored told may.
    c.begin_settled.ensures.shapes (settled_records records) restored (c.in-Ok.ensures.settled records told)
    (settled_to_prepare c.args.shape restored records may)

pub returns-in-Ok-clause-unless : goal.returns-in-Ok-clause-unless
returns-in-Ok-clause-unless g c = λ records restored told may.
    c.begin_settled.ensures.unless (settled_records records) restored (c.in-Ok.ensures.settled records told)
    (settled_to_prepare c.args.shape restored records may)

-- their records have only grown, while they were settled too
pub returns-in-Ok-clause-recorded : goal.returns-in-Ok-clause-recorded
returns-in-Ok-clause-recorded g c =
    let before = map g.D.Disk.told c.args.disks.now in
    let mid = map g.D.Disk.told c.settle_disks.new.disks in
    let many : length c.settle_disks.new.disks ≡ length c.args.disks.now = search rules in
    all_then before mid (map g.D.Disk.told c.begin_settled.new.disks)
    (asked_more (λ node. sync_calls) before mid c.settle_disks.result
    (mapped g.D.Disk.told c.settle_disks.new.disks ∙ many ∙ sym (mapped g.D.Disk.told c.args.disks.now))
    c.settle_disks.ensures.runs)
    c.begin_settled.ensures.recorded

pub returns-in-Err-clause-recorded : goal.returns-in-Err-clause-recorded
returns-in-Err-clause-recorded g c =
    let before = map g.D.Disk.told c.args.disks.now in
    let mid = map g.D.Disk.told c.settle_disks.new.disks in
    let many : length c.settle_disks.new.disks ≡ length c.args.disks.now = search rules in
    asked_more (λ node. sync_calls) before mid c.settle_disks.result
    (mapped g.D.Disk.told c.settle_disks.new.disks ∙ many ∙ sym (mapped g.D.Disk.told c.args.disks.now))
    c.settle_disks.ensures.runs

-- a disk that couldn't be settled failed, which is none of what it holds
pub returns-in-Err-clause-refused : goal.returns-in-Err-clause-refused
returns-in-Err-clause-refused g c = λ records told inside.
    absurd (true≢false (sym (fault_outside c.in-Err.fault c.in-Err.ensures.only) ∙ inside))

pub returns-in-Err-clause-unless : goal.returns-in-Err-clause-unless
returns-in-Err-clause-unless g c = λ records restored told may inside.
    absurd (true≢false (sym (fault_outside c.in-Err.fault c.in-Err.ensures.only) ∙ inside))

pub returns-in-Ok-clause-cause : goal.returns-in-Ok-clause-cause
returns-in-Ok-clause-cause g c =
    answer_then (map g.D.Disk.faults c.args.disks.now) (map g.D.Disk.faults c.settle_disks.new.disks)
    (map g.D.Disk.faults c.begin_settled.new.disks) c.begin_settled.result
    (mapped g.D.Disk.faults c.args.disks.now ∙ search rules ∙ sym (mapped g.D.Disk.faults c.settle_disks.new.disks))
    c.in-Ok.ensures.steady c.begin_settled.ensures.cause

pub returns-in-Ok-clause-steady : goal.returns-in-Ok-clause-steady
returns-in-Ok-clause-steady g c =
    steady_then (map g.D.Disk.faults c.args.disks.now) (map g.D.Disk.faults c.settle_disks.new.disks)
    (map g.D.Disk.faults c.begin_settled.new.disks) c.in-Ok.ensures.steady c.begin_settled.ensures.steady
