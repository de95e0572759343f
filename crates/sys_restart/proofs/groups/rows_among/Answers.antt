use Rattle.std.proofs.Common.{◌≡◌, ◌∙◌, ◌+◌, ◌-◌, ◌<◌, ℕ, [], get_or, length, map, ap, sym, arith}
use Rattle.std.specs.Prelude.{None}
use Rattle.sys_restart.specs.Files.{disks_of}
use Rattle.sys_restart.specs.Groups.{rows_among}
use Rattle.sys_restart.proofs.DisksLemmas.{node_cause, one_steady, same_told, steady_then, told_at}
use Rattle.sys_restart.proofs.GroupsLemmas.{among_next, among_none, among_stops, none_left, one_less}
use Rattle.sys_restart.proofs.groups.rows_among.Goals as goal

-- those of a node can't be read, or are others
pub returns-in-Err-clause-read : goal.returns-in-Err-clause-read
returns-in-Err-clause-read g c =
    let node = c.args.first + c.loop-more.more in
    let all = c.args.shape.now.replicas in
    let below : node - 1 < length c.loop-more.disks =
    omega (arith, c.requires.first, c.requires.last, c.requires.nodes, c.loop-more-test.true, c.loop-more.auto.disks) in
    let size = one_less all c.loop-more.more c.loop-more-test.true in
    λ records told.
    among_stops c.args.shape.now (disks_of records) c.args.system.now node (all - c.loop-more.more)
    (all - (c.loop-more.more + 1)) c.loop-more.found c.in-Err.fault
    (rows_among c.args.shape.now (disks_of records) c.args.system.now c.args.first all None) size
    (c.in-Err.ensures.read (get_or records (node - 1) [])
    (told_at g.D.Disk.told c.loop-more.disks records (node - 1) c.index-disks-index.result
    (c.loop-more.invariant.told ∙ told) below))
    (c.loop-more.invariant.read records told)

pub returns-in-Err-clause-steady : goal.returns-in-Err-clause-steady
returns-in-Err-clause-steady g c =
    let node = c.args.first + c.loop-more.more in
    let below : node - 1 < length c.loop-more.disks =
    omega (arith, c.requires.first, c.requires.last, c.requires.nodes, c.loop-more-test.true, c.loop-more.auto.disks) in
    steady_then (map g.D.Disk.faults c.args.disks.now) (map g.D.Disk.faults c.loop-more.disks) _
    c.loop-more.invariant.steady
    (one_steady g.D.Disk.faults c.loop-more.disks (node - 1) c.index-disks-index.result c.also_on.new.disk
    below c.in-Err.ensures.steady)

pub returns-in-Err-clause-cause : goal.returns-in-Err-clause-cause
returns-in-Err-clause-cause g c =
    let node = c.args.first + c.loop-more.more in
    let below : node - 1 < length c.loop-more.disks =
    omega (arith, c.requires.first, c.requires.last, c.requires.nodes, c.loop-more-test.true, c.loop-more.auto.disks) in
    node_cause g.D.Disk.faults c.args.disks.now c.loop-more.disks node (node - 1) c.index-disks-index.result
    c.also_on.new.disk c.in-Err.fault (omega (arith, c.requires.first)) below (sym c.loop-more.auto.disks)
    c.loop-more.invariant.steady c.in-Err.ensures.cause

-- they were read
pub loop-more-preserved : goal.loop-more-preserved
loop-more-preserved g c =
    let node = c.args.first + c.loop-more.more in
    let all = c.args.shape.now.replicas in
    let below : node - 1 < length c.loop-more.disks =
    omega (arith, c.requires.first, c.requires.last, c.requires.nodes, c.loop-more-test.true, c.loop-more.auto.disks) in
    let size = one_less all c.loop-more.more c.loop-more-test.true in
    let next : c.args.first + (c.loop-more.more + 1) ≡ node + 1 = omega arith in
    record {
      told = same_told g.D.Disk.told c.loop-more.disks (node - 1) c.index-disks-index.result c.also_on.new.disk below
          c.in-Ok.ensures.unrecorded
          ∙ c.loop-more.invariant.told;
      steady = steady_then (map g.D.Disk.faults c.args.disks.now) (map g.D.Disk.faults c.loop-more.disks) _
          c.loop-more.invariant.steady
          (one_steady g.D.Disk.faults c.loop-more.disks (node - 1) c.index-disks-index.result c.also_on.new.disk
          below c.in-Ok.ensures.steady);
      read = λ records told.
          ap
          (λ (n : ℕ). rows_among c.args.shape.now (disks_of records) c.args.system.now n
          (all - (c.loop-more.more + 1)) c.in-Ok.rows)
          next
          ∙ among_next c.args.shape.now (disks_of records) c.args.system.now node (all - c.loop-more.more)
          (all - (c.loop-more.more + 1)) c.loop-more.found c.in-Ok.rows size
          (c.in-Ok.ensures.read (get_or records (node - 1) [])
          (told_at g.D.Disk.told c.loop-more.disks records (node - 1) c.index-disks-index.result
          (c.loop-more.invariant.told ∙ told) below))
          ∙ c.loop-more.invariant.read records told;
    }

-- those of all were
pub returns-clause-read : goal.returns-clause-read
returns-clause-read g c = λ records told.
    let all = c.args.shape.now.replicas in
    sym (c.loop-more.invariant.read records told)
    ∙ among_none c.args.shape.now (disks_of records) c.args.system.now (c.args.first + c.loop-more.more)
    (all - c.loop-more.more) c.loop-more.found (none_left all c.loop-more.more c.loop-more-test.false)
