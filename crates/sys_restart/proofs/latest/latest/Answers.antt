use Rattle.std.proofs.Common.{rules, ◌≡◌, ◌∙◌, ◌+◌, ◌-◌, ◌<◌, [], None, Ok, suc, get_or, length, map, ap, sym}
use Rattle.sys_restart.specs.Files.{disks_of}
use Rattle.sys_restart.specs.Latest.{latest_from}
use Rattle.sys_restart.proofs.DisksLemmas.{one_steady, same_told, steady_then, told_node}
use Rattle.sys_restart.proofs.LatestLemmas.{latest_ends, latest_more, latest_stops}
use Rattle.sys_restart.proofs.latest.latest.Goals as goal

-- a node's slots can't be read
pub returns-in-Err-clause-read : goal.returns-in-Err-clause-read
returns-in-Err-clause-read g c =
    let below : c.loop-index.index < length c.loop-index.disks = search rules in
    let all = length c.args.disks.now in
    let size : all - c.loop-index.index ≡ suc (all - (c.loop-index.index + 1)) = search rules in
    λ records told.
    latest_stops c.args.shape (disks_of records) (c.loop-index.index + 1) (all - c.loop-index.index)
    (all - (c.loop-index.index + 1)) c.loop-index.found c.in-Err.fault
    (latest_from c.args.shape (disks_of records) 1 all (Ok None)) size
    (c.in-Err.ensures.read (get_or records (c.loop-index.index + 1 - 1) [])
    (told_node g.D.Disk.told c.loop-index.disks records c.loop-index.index c.index-disks-index.result
    (c.loop-index.invariant.told ∙ told) below))
    (c.loop-index.invariant.read records told)

pub returns-in-Err-clause-steady : goal.returns-in-Err-clause-steady
returns-in-Err-clause-steady g c =
    let below : c.loop-index.index < length c.loop-index.disks = search rules in
    steady_then (map g.D.Disk.faults c.args.disks.now) (map g.D.Disk.faults c.loop-index.disks) _
    c.loop-index.invariant.steady
    (one_steady g.D.Disk.faults c.loop-index.disks c.loop-index.index c.index-disks-index.result c.latest_on.new.disk
    below c.in-Err.ensures.steady)

-- the slots of one more node were read
pub loop-index-preserved : goal.loop-index-preserved
loop-index-preserved g c =
    let below : c.loop-index.index < length c.loop-index.disks = search rules in
    let all = length c.args.disks.now in
    let size : all - c.loop-index.index ≡ suc (all - (c.loop-index.index + 1)) = search rules in
    record {
      told = same_told g.D.Disk.told c.loop-index.disks c.loop-index.index c.index-disks-index.result
          c.latest_on.new.disk below c.in-Ok.ensures.unrecorded
          ∙ c.loop-index.invariant.told;
      steady = steady_then (map g.D.Disk.faults c.args.disks.now) (map g.D.Disk.faults c.loop-index.disks) _
          c.loop-index.invariant.steady
          (one_steady g.D.Disk.faults c.loop-index.disks c.loop-index.index c.index-disks-index.result
          c.latest_on.new.disk below c.in-Ok.ensures.steady);
      read = λ records told.
          ap
          (λ found. latest_from c.args.shape (disks_of records) (c.loop-index.index + 1 + 1)
          (all - (c.loop-index.index + 1)) (Ok found))
          c.later_system-found.ensures
          ∙ latest_more c.args.shape (disks_of records) (c.loop-index.index + 1) (all - c.loop-index.index)
          (all - (c.loop-index.index + 1)) c.loop-index.found c.in-Ok.slot size
          (c.in-Ok.ensures.read (get_or records (c.loop-index.index + 1 - 1) [])
          (told_node g.D.Disk.told c.loop-index.disks records c.loop-index.index c.index-disks-index.result
          (c.loop-index.invariant.told ∙ told) below))
          ∙ c.loop-index.invariant.read records told;
    }

-- all were read
pub returns-clause-read : goal.returns-clause-read
returns-clause-read g c =
    let all = length c.args.disks.now in
    let none : all - c.loop-index.index ≡ 0 = search rules in
    λ records told.
    sym (c.loop-index.invariant.read records told)
    ∙ latest_ends c.args.shape (disks_of records) (c.loop-index.index + 1) (all - c.loop-index.index)
    (Ok c.loop-index.found) none
