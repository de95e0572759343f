use Rattle.sys_restart.specs.Files.{disks_of}
use Rattle.sys_restart.proofs.RestoredLemmas.{fails_under, rows_under}
use Rattle.sys_restart.proofs.restoring.restore_under.Goals as goal

pub returns-in-Ok-clause-read : goal.returns-in-Ok-clause-read
returns-in-Ok-clause-read g c = λ records told.
    rows_under c.args.shape (disks_of records) c.args.system.now c.in-Ok.groups (c.in-Ok.ensures.read records told)

pub returns-in-Err-clause-read : goal.returns-in-Err-clause-read
returns-in-Err-clause-read g c = λ records told.
    fails_under c.args.shape (disks_of records) c.args.system.now c.in-Err.fault (c.in-Err.ensures.read records told)
