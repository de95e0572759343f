use Rattle.std.proofs.Common.{rules, ◌≡◌, ◌∙◌, ◌+◌, ◌-◌, ◌<◌, [], suc, get_or, length, map, sym}
use Rattle.sys_restart.specs.Files.{disks_of}
use Rattle.sys_restart.specs.Lost.{none_lost}
use Rattle.sys_restart.proofs.DisksLemmas.{one_steady, same_told, steady_then, told_node}
use Rattle.sys_restart.proofs.LostLemmas.{lost_ends, lost_more, lost_stops}
use Rattle.sys_restart.proofs.lost.none_lost.Goals as goal

-- a node has lost some, or can't be read
pub returns-in-Err-clause-read : goal.returns-in-Err-clause-read
returns-in-Err-clause-read g c =
    let below : c.loop-index.index < length c.loop-index.disks = search rules in
    let all = length c.args.disks.now in
    let size : all - c.loop-index.index ≡ suc (all - (c.loop-index.index + 1)) = search rules in
    λ records told.
    lost_stops (disks_of records) (c.loop-index.index + 1) (all - c.loop-index.index)
    (all - (c.loop-index.index + 1)) c.in-Err.fault (none_lost (disks_of records) 1 all) size
    (c.in-Err.ensures.read (get_or records (c.loop-index.index + 1 - 1) [])
    (told_node g.D.Disk.told c.loop-index.disks records c.loop-index.index c.index-disks-index.result
    (c.loop-index.invariant.told ∙ told) below))
    (c.loop-index.invariant.read records told)

pub returns-in-Err-clause-steady : goal.returns-in-Err-clause-steady
returns-in-Err-clause-steady g c =
    let below : c.loop-index.index < length c.loop-index.disks = search rules in
    steady_then (map g.D.Disk.faults c.args.disks.now) (map g.D.Disk.faults c.loop-index.disks) _
    c.loop-index.invariant.steady
    (one_steady g.D.Disk.faults c.loop-index.disks c.loop-index.index c.index-disks-index.result
    c.none_lost_on.new.disk below c.in-Err.ensures.steady)

-- one more node has lost none
pub loop-index-preserved : goal.loop-index-preserved
loop-index-preserved g c =
    let below : c.loop-index.index < length c.loop-index.disks = search rules in
    let all = length c.args.disks.now in
    let size : all - c.loop-index.index ≡ suc (all - (c.loop-index.index + 1)) = search rules in
    record {
      told = same_told g.D.Disk.told c.loop-index.disks c.loop-index.index c.index-disks-index.result
          c.none_lost_on.new.disk below c.in-Ok.ensures.unrecorded
          ∙ c.loop-index.invariant.told;
      steady = steady_then (map g.D.Disk.faults c.args.disks.now) (map g.D.Disk.faults c.loop-index.disks) _
          c.loop-index.invariant.steady
          (one_steady g.D.Disk.faults c.loop-index.disks c.loop-index.index c.index-disks-index.result
          c.none_lost_on.new.disk below c.in-Ok.ensures.steady);
      read = λ records told.
          lost_more (disks_of records) (c.loop-index.index + 1) (all - c.loop-index.index)
          (all - (c.loop-index.index + 1)) size
          (c.in-Ok.ensures.read (get_or records (c.loop-index.index + 1 - 1) [])
          (told_node g.D.Disk.told c.loop-index.disks records c.loop-index.index c.index-disks-index.result
          (c.loop-index.invariant.told ∙ told) below))
          ∙ c.loop-index.invariant.read records told;
    }

-- none has
pub returns-clause-read : goal.returns-clause-read
returns-clause-read g c =
    let all = length c.args.disks.now in
    let none : all - c.loop-index.index ≡ 0 = search rules in
    λ records told.
    sym (c.loop-index.invariant.read records told)
    ∙ lost_ends (disks_of records) (c.loop-index.index + 1) (all - c.loop-index.index) none
