use Rattle.std.proofs.Common.{length, map}
use Rattle.sys_restart.specs.Files.{disks_of}
use Rattle.sys_restart.proofs.RestoredLemmas.{none_fails, none_reads}
use Rattle.sys_restart.proofs.restoring.restore_none.Goals as goal

-- none are lost
pub returns-in-Ok-clause-read : goal.returns-in-Ok-clause-read
returns-in-Ok-clause-read g c = λ records told.
    none_reads c.args.shape.now (disks_of records) (length c.args.disks.now) c.nothing.result c.requires.nodes
    (c.in-Ok.ensures.read records told) c.nothing.ensures.read

pub returns-in-Ok-clause-cause : goal.returns-in-Ok-clause-cause
returns-in-Ok-clause-cause g c =
    c.nothing.ensures.cause (map g.D.Disk.faults c.args.disks.now) (map g.D.Disk.faults c.none_lost.new.disks)

-- some are, or the disks can't be read
pub returns-in-Err-clause-read : goal.returns-in-Err-clause-read
returns-in-Err-clause-read g c = λ records told.
    none_fails c.args.shape.now (disks_of records) (length c.args.disks.now) c.in-Err.fault c.requires.nodes
    (c.in-Err.ensures.read records told)
