use Rattle.std.proofs.Common.{◌∙◌, map, ap, arith}
use Rattle.std.specs.Prelude.{Ok}
use Rattle.sys_restart.specs.Files.{disks_of}
use Rattle.sys_restart.proofs.DisksLemmas.{cause_then, same_many, same_size, steady_then}
use Rattle.sys_restart.proofs.GroupsLemmas.{group_fails, group_found, group_lacks}
use Rattle.sys_restart.proofs.groups.rows_of_group.Goals as goal

-- the group has rows
pub returns-in-Ok-Some-clause-read : goal.returns-in-Ok-Some-clause-read
returns-in-Ok-Some-clause-read g c = λ records told.
    group_found c.args.shape.now (disks_of records) c.args.system.now c.args.first c.in-Ok-Some.rows
    (c.in-Ok-Some.ensures.read records told ∙ ap Ok c.in-Ok-Some.field-0-is)

-- it has none
pub lacking_at-requires : goal.lacking_at-requires
lacking_at-requires g c = record {
  first = omega (arith, c.first_listed-node.ensures.least, c.requires.first);
  last = omega (
    arith,
    c.first_listed-node.ensures.most,
    c.requires.last,
    c.requires.nodes,
    same_size g.D.Disk.told c.rows_among.new.disks c.args.disks.now c.in-Ok-None.ensures.unrecorded,
  );
}

pub returns-in-Ok-None-clause-read : goal.returns-in-Ok-None-clause-read
returns-in-Ok-None-clause-read g c = λ records told.
    group_lacks c.args.shape.now (disks_of records) c.args.system.now c.args.first c.first_listed-node.result
    c.lacking_at.result
    (c.in-Ok-None.ensures.read records told ∙ ap Ok c.in-Ok-None.field-0-is)
    c.first_listed-node.ensures.value
    (c.lacking_at.ensures.read records (c.in-Ok-None.ensures.unrecorded ∙ told))

pub returns-in-Ok-None-clause-unrecorded : goal.returns-in-Ok-None-clause-unrecorded
returns-in-Ok-None-clause-unrecorded g c = c.lacking_at.ensures.unrecorded ∙ c.in-Ok-None.ensures.unrecorded

pub returns-in-Ok-None-clause-cause : goal.returns-in-Ok-None-clause-cause
returns-in-Ok-None-clause-cause g c =
    cause_then (map g.D.Disk.faults c.args.disks.now) (map g.D.Disk.faults c.rows_among.new.disks)
    (map g.D.Disk.faults c.lacking_at.new.disks) c.lacking_at.result
    (same_many g.D.Disk.told g.D.Disk.faults c.rows_among.new.disks c.args.disks.now c.in-Ok-None.ensures.unrecorded)
    c.in-Ok-None.ensures.steady c.lacking_at.ensures.cause

pub returns-in-Ok-None-clause-steady : goal.returns-in-Ok-None-clause-steady
returns-in-Ok-None-clause-steady g c =
    steady_then (map g.D.Disk.faults c.args.disks.now) (map g.D.Disk.faults c.rows_among.new.disks)
    (map g.D.Disk.faults c.lacking_at.new.disks) c.in-Ok-None.ensures.steady c.lacking_at.ensures.steady

-- they can't be read
pub returns-in-Err-clause-read : goal.returns-in-Err-clause-read
returns-in-Err-clause-read g c = λ records told.
    group_fails c.args.shape.now (disks_of records) c.args.system.now c.args.first c.in-Err.fault
    (c.in-Err.ensures.read records told)
