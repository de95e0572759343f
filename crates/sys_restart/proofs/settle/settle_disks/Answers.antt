use Rattle.std.proofs.Common.{rules, ◌≡◌, ◌∙◌, ◌+◌, ◌<◌, length, map, arith}
use Rattle.sys_restart.specs.LifeCalls.{record_of}
use Rattle.sys_restart.specs.Settle.{sync_calls}
use Rattle.sys_restart.proofs.DisksLemmas.{mapped, one_cause, one_steady, steady_itself, steady_then}
use Rattle.sys_restart.proofs.SettleLemmas.{runs_settled}
use Rattle.sys_restart.proofs.TurnLemmas.{own_record, same_length, turns_begin, turns_end, turns_more, turns_stop}
use Rattle.sys_restart.proofs.settle.settle_disks.Goals as goal

pub loop-index-init : goal.loop-index-init
loop-index-init g c = record {
  steady = steady_itself (map g.D.Disk.faults c.args.disks.now);
  turns = λ records told.
      turns_begin g.D.Disk.told c.args.disks.now records (λ node. sync_calls) told;
}

-- one more disk has had its calls
pub loop-index-preserved : goal.loop-index-preserved
loop-index-preserved g c =
    let below : c.loop-index.index < length c.loop-index.disks = search rules in
    let long : length c.loop-index.disks ≡ length c.args.disks.now = search rules in
    record {
      steady = steady_then (map g.D.Disk.faults c.args.disks.now) (map g.D.Disk.faults c.loop-index.disks) _
          c.loop-index.invariant.steady
          (one_steady g.D.Disk.faults c.loop-index.disks c.loop-index.index c.index-disks-index.result
          c.settle_disk.new.disk below c.in-Ok.ensures.steady);
      turns = λ records told.
          let turns = c.loop-index.invariant.turns records told in
          let within : c.loop-index.index < length records =
          omega (arith, below, long, same_length g.D.Disk.told c.args.disks.now records told) in
          turns_more g.D.Disk.told c.loop-index.disks (λ node. sync_calls) (record_of records)
          (length records) c.loop-index.index c.settle_disk.new.disk turns below
          (c.in-Ok.ensures.runs (record_of records (c.loop-index.index + 1))
          (own_record g.D.Disk.told c.loop-index.disks records (λ node. sync_calls) c.loop-index.index
          c.index-disks-index.result turns below within));
    }

-- a call failed
pub returns-in-Err-clause-runs : goal.returns-in-Err-clause-runs
returns-in-Err-clause-runs g c =
    let below : c.loop-index.index < length c.loop-index.disks = search rules in
    let long : length c.loop-index.disks ≡ length c.args.disks.now = search rules in
    λ records told.
    let turns = c.loop-index.invariant.turns records told in
    let within : c.loop-index.index < length records =
    omega (arith, below, long, same_length g.D.Disk.told c.args.disks.now records told) in (
      c.loop-index.index,
      turns_stop g.D.Disk.told c.loop-index.disks (λ node. sync_calls) (record_of records)
          (length records) c.loop-index.index c.settle_disk.new.disk c.in-Err.fault turns below within
          (c.in-Err.ensures.runs (record_of records (c.loop-index.index + 1))
          (own_record g.D.Disk.told c.loop-index.disks records (λ node. sync_calls) c.loop-index.index
          c.index-disks-index.result turns below within)),
    )

pub returns-in-Err-clause-steady : goal.returns-in-Err-clause-steady
returns-in-Err-clause-steady g c =
    let below : c.loop-index.index < length c.loop-index.disks = search rules in
    steady_then (map g.D.Disk.faults c.args.disks.now) (map g.D.Disk.faults c.loop-index.disks) _
    c.loop-index.invariant.steady
    (one_steady g.D.Disk.faults c.loop-index.disks c.loop-index.index c.index-disks-index.result
    c.settle_disk.new.disk below c.in-Err.ensures.steady)

pub returns-in-Err-clause-cause : goal.returns-in-Err-clause-cause
returns-in-Err-clause-cause g c =
    let below : c.loop-index.index < length c.loop-index.disks = search rules in
    let long : length c.args.disks.now ≡ length c.loop-index.disks = search rules in
    one_cause g.D.Disk.faults c.args.disks.now c.loop-index.disks c.loop-index.index c.index-disks-index.result
    c.settle_disk.new.disk c.in-Err.fault below long c.loop-index.invariant.steady
    c.in-Err.ensures.cause

-- all disks have had their calls
pub returns-clause-runs : goal.returns-clause-runs
returns-clause-runs g c = λ records told.
    let all : c.loop-index.index ≡ length c.args.disks.now = search rules in (
      c.loop-index.index,
      turns_end (λ node. sync_calls) (record_of records)
          (map g.D.Disk.told c.loop-index.disks) (length records) c.loop-index.index
          (c.loop-index.invariant.turns records told)
          (all ∙ same_length g.D.Disk.told c.args.disks.now records told),
    )

-- and so are settled
pub returns-clause-settled : goal.returns-clause-settled
returns-clause-settled g c = λ records told.
    let all : c.loop-index.index ≡ length c.args.disks.now = search rules in
    let long : length c.loop-index.disks ≡ length c.args.disks.now = search rules in
    let size = same_length g.D.Disk.told c.args.disks.now records told in
    runs_settled records (map g.D.Disk.told c.loop-index.disks)
    (mapped g.D.Disk.told c.loop-index.disks ∙ long ∙ size) (
      c.loop-index.index,
      turns_end (λ node. sync_calls) (record_of records) (map g.D.Disk.told c.loop-index.disks) (length records)
          c.loop-index.index (c.loop-index.invariant.turns records told) (all ∙ size),
    )
