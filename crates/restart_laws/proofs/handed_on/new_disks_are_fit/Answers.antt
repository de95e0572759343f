use Rattle.restart_laws.proofs.handed.New.{new_disks_are_fit}
use Rattle.restart_laws.proofs.handed_on.new_disks_are_fit.Goals as goal

pub returns : goal.returns
returns c = new_disks_are_fit
