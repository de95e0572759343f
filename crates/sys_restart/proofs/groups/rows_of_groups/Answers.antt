use Rattle.std.proofs.Common.{◌≡◌, ◌∙◌, ◌+◌, ◌-◌, ℕ, map, sym, subst, arith}
use Rattle.std.specs.Prelude.{Ok, Err}
use Rattle.std.proofs.lemmas.Bool.{true≢false}
use Rattle.frag_map.specs.Shape.{groups}
use Rattle.sys_restart.specs.Answers.{ReadsAll}
use Rattle.sys_restart.specs.Files.{disks_of}
use Rattle.sys_restart.specs.Groups.{rows_of_group, rows_of_groups}
use Rattle.sys_restart.proofs.DisksLemmas.{cause_then, same_many, same_size, steady_then}
use Rattle.sys_restart.proofs.GroupsLemmas.{none_left, one_less, rows_end, rows_more, rows_stop}
use Rattle.sys_restart.proofs.groups.rows_of_groups.Goals as goal

-- the nodes of a group are nodes of the cluster
pub rows_of_group-requires : goal.rows_of_group-requires
rows_of_group-requires g c =
    let many = same_size g.D.Disk.told c.loop-group.disks c.args.disks.now c.loop-group.invariant.told in
    record {
      shape = c.requires.shape;
      nodes = many ∙ c.requires.nodes;
      first = omega (arith, c.first_of-first.ensures.value);
      last = c.first_of-first.ensures.last;
    }

-- the rows of a group can't be read
pub returns-in-Err-clause-read : goal.returns-in-Err-clause-read
returns-in-Err-clause-read g c =
    let all = groups c.args.shape in
    let group = c.loop-group.group in
    let size = one_less all group c.loop-group-test.true in
    λ records told.
    rows_stop c.args.shape (disks_of records) c.args.system.now group (all - group) (all - (group + 1))
    c.loop-group.rows c.in-Err.fault (rows_of_groups c.args.shape (disks_of records) c.args.system.now) size
    (subst
    (λ (n : ℕ). ReadsAll (rows_of_group c.args.shape (disks_of records) c.args.system.now n)
    (Err c.in-Err.fault))
    c.first_of-first.ensures.value
    (c.in-Err.ensures.read records (c.loop-group.invariant.told ∙ told)))
    (c.loop-group.invariant.read records told)

pub returns-in-Err-clause-unrecorded : goal.returns-in-Err-clause-unrecorded
returns-in-Err-clause-unrecorded g c = c.in-Err.ensures.unrecorded ∙ c.loop-group.invariant.told

pub returns-in-Err-clause-cause : goal.returns-in-Err-clause-cause
returns-in-Err-clause-cause g c =
    cause_then (map g.D.Disk.faults c.args.disks.now) (map g.D.Disk.faults c.loop-group.disks)
    (map g.D.Disk.faults c.rows_of_group.new.disks) c.in-Err.fault
    (same_many g.D.Disk.told g.D.Disk.faults c.loop-group.disks c.args.disks.now c.loop-group.invariant.told)
    c.loop-group.invariant.steady c.in-Err.ensures.cause

pub returns-in-Err-clause-steady : goal.returns-in-Err-clause-steady
returns-in-Err-clause-steady g c =
    steady_then (map g.D.Disk.faults c.args.disks.now) (map g.D.Disk.faults c.loop-group.disks)
    (map g.D.Disk.faults c.rows_of_group.new.disks) c.loop-group.invariant.steady c.in-Err.ensures.steady

-- there is no memory for them
pub returns-in-Err-push-clause-read : goal.returns-in-Err-push-clause-read
returns-in-Err-push-clause-read g c = λ records told inside. absurd (true≢false inside)

pub returns-in-Err-push-clause-unrecorded : goal.returns-in-Err-push-clause-unrecorded
returns-in-Err-push-clause-unrecorded g c = c.in-Ok.ensures.unrecorded ∙ c.loop-group.invariant.told

pub returns-in-Err-push-clause-steady : goal.returns-in-Err-push-clause-steady
returns-in-Err-push-clause-steady g c =
    steady_then (map g.D.Disk.faults c.args.disks.now) (map g.D.Disk.faults c.loop-group.disks)
    (map g.D.Disk.faults c.rows_of_group.new.disks) c.loop-group.invariant.steady c.in-Ok.ensures.steady

-- those of one more group were read
pub loop-group-preserved : goal.loop-group-preserved
loop-group-preserved g c =
    let all = groups c.args.shape in
    let group = c.loop-group.group in
    let size = one_less all group c.loop-group-test.true in
    record {
      told = c.in-Ok.ensures.unrecorded ∙ c.loop-group.invariant.told;
      steady = steady_then (map g.D.Disk.faults c.args.disks.now) (map g.D.Disk.faults c.loop-group.disks)
          (map g.D.Disk.faults c.rows_of_group.new.disks) c.loop-group.invariant.steady c.in-Ok.ensures.steady;
      read = λ records told.
          rows_more c.args.shape (disks_of records) c.args.system.now group (all - group)
          (all - (group + 1)) c.loop-group.rows c.push.new.self c.in-Ok.part size
          (subst
          (λ (n : ℕ). rows_of_group c.args.shape (disks_of records) c.args.system.now n ≡ Ok c.in-Ok.part)
          c.first_of-first.ensures.value
          (c.in-Ok.ensures.read records (c.loop-group.invariant.told ∙ told)))
          c.in-Ok-push.ensures.ok
          ∙ c.loop-group.invariant.read records told;
    }

-- all were read
pub returns-clause-read : goal.returns-clause-read
returns-clause-read g c = λ records told.
    sym (c.loop-group.invariant.read records told)
    ∙ rows_end c.args.shape (disks_of records) c.args.system.now c.loop-group.group
    (groups c.args.shape - c.loop-group.group) (Ok c.loop-group.rows)
    (none_left (groups c.args.shape) c.loop-group.group c.loop-group-test.false)
