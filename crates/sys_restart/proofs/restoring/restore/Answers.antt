use Rattle.std.proofs.Common.{◌∙◌, length, map, ap}
use Rattle.std.specs.Prelude.{Err, None, Ok, Some}
use Rattle.sys_restart.specs.Files.{disks_of}
use Rattle.sys_restart.proofs.DisksLemmas.{answer_then, same_many, same_size, steady_then}
use Rattle.sys_restart.proofs.LatestLemmas.{latest_of_all}
use Rattle.sys_restart.proofs.RestoredLemmas.{restored_as, restored_reads}
use Rattle.sys_restart.proofs.restoring.restore.Goals as goal

-- a system slot was found
pub restore_under-requires : goal.restore_under-requires
restore_under-requires g c = record {
  shape = c.requires.shape;
  nodes = same_size g.D.Disk.told c.latest.new.disks c.args.disks.now c.in-Ok-Some.ensures.unrecorded
      ∙ c.requires.nodes;
}

pub returns-in-Ok-Some-clause-read : goal.returns-in-Ok-Some-clause-read
returns-in-Ok-Some-clause-read g c = λ records told.
    restored_reads c.args.shape (disks_of records) (Ok (Some c.in-Ok-Some.system)) c.restore_under.result
    (latest_of_all c.args.shape (disks_of records) (length c.args.disks.now) (Ok (Some c.in-Ok-Some.system))
    c.requires.nodes
    (c.in-Ok-Some.ensures.read records told ∙ ap Ok c.in-Ok-Some.field-0-is))
    (c.restore_under.ensures.read records (c.in-Ok-Some.ensures.unrecorded ∙ told))

pub returns-in-Ok-Some-clause-unrecorded : goal.returns-in-Ok-Some-clause-unrecorded
returns-in-Ok-Some-clause-unrecorded g c = c.restore_under.ensures.unrecorded ∙ c.in-Ok-Some.ensures.unrecorded

pub returns-in-Ok-Some-clause-cause : goal.returns-in-Ok-Some-clause-cause
returns-in-Ok-Some-clause-cause g c =
    answer_then (map g.D.Disk.faults c.args.disks.now) (map g.D.Disk.faults c.latest.new.disks)
    (map g.D.Disk.faults c.restore_under.new.disks) c.restore_under.result
    (same_many g.D.Disk.told g.D.Disk.faults c.latest.new.disks c.args.disks.now c.in-Ok-Some.ensures.unrecorded)
    c.in-Ok-Some.ensures.steady c.restore_under.ensures.cause

pub returns-in-Ok-Some-clause-steady : goal.returns-in-Ok-Some-clause-steady
returns-in-Ok-Some-clause-steady g c =
    steady_then (map g.D.Disk.faults c.args.disks.now) (map g.D.Disk.faults c.latest.new.disks)
    (map g.D.Disk.faults c.restore_under.new.disks) c.in-Ok-Some.ensures.steady c.restore_under.ensures.steady

-- none was
pub restore_none-requires : goal.restore_none-requires
restore_none-requires g c = record {
  shape = c.requires.shape;
  nodes = same_size g.D.Disk.told c.latest.new.disks c.args.disks.now c.in-Ok-None.ensures.unrecorded
      ∙ c.requires.nodes;
}

pub returns-in-Ok-None-clause-read : goal.returns-in-Ok-None-clause-read
returns-in-Ok-None-clause-read g c = λ records told.
    restored_reads c.args.shape (disks_of records) (Ok None) c.restore_none.result
    (latest_of_all c.args.shape (disks_of records) (length c.args.disks.now) (Ok None) c.requires.nodes
    (c.in-Ok-None.ensures.read records told ∙ ap Ok c.in-Ok-None.field-0-is))
    (c.restore_none.ensures.read records (c.in-Ok-None.ensures.unrecorded ∙ told))

pub returns-in-Ok-None-clause-unrecorded : goal.returns-in-Ok-None-clause-unrecorded
returns-in-Ok-None-clause-unrecorded g c = c.restore_none.ensures.unrecorded ∙ c.in-Ok-None.ensures.unrecorded

pub returns-in-Ok-None-clause-cause : goal.returns-in-Ok-None-clause-cause
returns-in-Ok-None-clause-cause g c =
    answer_then (map g.D.Disk.faults c.args.disks.now) (map g.D.Disk.faults c.latest.new.disks)
    (map g.D.Disk.faults c.restore_none.new.disks) c.restore_none.result
    (same_many g.D.Disk.told g.D.Disk.faults c.latest.new.disks c.args.disks.now c.in-Ok-None.ensures.unrecorded)
    c.in-Ok-None.ensures.steady c.restore_none.ensures.cause

pub returns-in-Ok-None-clause-steady : goal.returns-in-Ok-None-clause-steady
returns-in-Ok-None-clause-steady g c =
    steady_then (map g.D.Disk.faults c.args.disks.now) (map g.D.Disk.faults c.latest.new.disks)
    (map g.D.Disk.faults c.restore_none.new.disks) c.in-Ok-None.ensures.steady c.restore_none.ensures.steady

-- they can't be read
pub returns-in-Err-clause-read : goal.returns-in-Err-clause-read
returns-in-Err-clause-read g c = λ records told inside.
    restored_as c.args.shape (disks_of records) (Err c.in-Err.fault)
    (latest_of_all c.args.shape (disks_of records) (length c.args.disks.now) (Err c.in-Err.fault) c.requires.nodes
    (c.in-Err.ensures.read records told inside))
