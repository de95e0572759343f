use Rattle.std.proofs.Common.{rules, ◌∙◌, ◌+◌, ◌-◌, ◌<◌, [], get_or, length, map, sym}
use Rattle.sys_restart.specs.Files.{disks_of}
use Rattle.sys_restart.proofs.DisksLemmas.{one_cause, one_steady, same_size, same_told, steady_itself, steady_then}
use Rattle.sys_restart.proofs.DisksLemmas.{told_node}
use Rattle.life_start.proofs.LackLemmas.{one_lacks}
use Rattle.life_start.proofs.SlotsLemmas.{next_more, none_yet}
use Rattle.life_start.proofs.slots.slots_of.Goals as goal

-- none were read
pub loop-index-init : goal.loop-index-init
loop-index-init g c =
    record {
      told = search rules;
      steady = steady_itself (map g.D.Disk.faults c.args.disks.now);
      count = search rules;
      read = λ records told. none_yet c.args.generation (disks_of records) _ (search rules);
    }

-- a node's can't be read
pub returns-in-Err-clause-cause : goal.returns-in-Err-clause-cause
returns-in-Err-clause-cause g c =
    let below : c.loop-index.index < length c.loop-index.disks = search rules in
    one_cause g.D.Disk.faults c.args.disks.now c.loop-index.disks c.loop-index.index c.index-disks-index.result
    c.slots_on.new.disk c.in-Err.fault below
    (sym (same_size g.D.Disk.told c.loop-index.disks c.args.disks.now c.loop-index.invariant.told))
    c.loop-index.invariant.steady c.in-Err.ensures.cause

pub returns-in-Err-clause-unrecorded : goal.returns-in-Err-clause-unrecorded
returns-in-Err-clause-unrecorded g c =
    let below : c.loop-index.index < length c.loop-index.disks = search rules in
    same_told g.D.Disk.told c.loop-index.disks c.loop-index.index c.index-disks-index.result c.slots_on.new.disk below
    c.in-Err.ensures.unrecorded
    ∙ c.loop-index.invariant.told

-- and then it lacks them
pub returns-in-Err-clause-lacking : goal.returns-in-Err-clause-lacking
returns-in-Err-clause-lacking g c = λ inside.
    let below : c.loop-index.index < length c.loop-index.disks = search rules in
    one_lacks g.D.Disk.told c.args.disks.now c.loop-index.disks c.args.generation c.loop-index.index
    c.index-disks-index.result c.in-Err.fault below c.loop-index.invariant.told
    (same_size g.D.Disk.told c.loop-index.disks c.args.disks.now c.loop-index.invariant.told)
    (λ calls told. c.in-Err.ensures.lacking calls told inside)

-- there is no memory for them
pub returns-in-Err-push-clause-steady : goal.returns-in-Err-push-clause-steady
returns-in-Err-push-clause-steady g c =
    let below : c.loop-index.index < length c.loop-index.disks = search rules in
    steady_then (map g.D.Disk.faults c.args.disks.now) (map g.D.Disk.faults c.loop-index.disks) _
    c.loop-index.invariant.steady
    (one_steady g.D.Disk.faults c.loop-index.disks c.loop-index.index c.index-disks-index.result c.slots_on.new.disk
    below c.in-Ok.ensures.steady)

-- those of one more node were read
pub loop-index-preserved : goal.loop-index-preserved
loop-index-preserved g c =
    let below : c.loop-index.index < length c.loop-index.disks = search rules in
    record {
      told = same_told g.D.Disk.told c.loop-index.disks c.loop-index.index c.index-disks-index.result
          c.slots_on.new.disk below c.in-Ok.ensures.unrecorded
          ∙ c.loop-index.invariant.told;
      steady = steady_then (map g.D.Disk.faults c.args.disks.now) (map g.D.Disk.faults c.loop-index.disks) _
          c.loop-index.invariant.steady
          (one_steady g.D.Disk.faults c.loop-index.disks c.loop-index.index c.index-disks-index.result
          c.slots_on.new.disk below c.in-Ok.ensures.steady);
      count = search rules;
      read = λ records told.
          next_more c.args.generation c.loop-index.index (disks_of records) c.loop-index.slots.items _ c.in-Ok.found
          c.loop-index.invariant.count c.in-Ok-push.ensures.items (c.loop-index.invariant.read records told)
          (c.in-Ok.ensures.read (get_or records (c.loop-index.index + 1 - 1) [])
          (told_node g.D.Disk.told c.loop-index.disks records c.loop-index.index c.index-disks-index.result
          (c.loop-index.invariant.told ∙ told) below));
    }
