use Rattle.disk_laws.proofs.ReadyLaw.{ready_keep_up}
use Rattle.disk_laws.proofs.laws.ready_disks_keep_up.Goals as goal

pub returns : goal.returns
returns c = ready_keep_up
