use Rattle.node_restart.proofs.StartLaw.{ready_rows}
use Rattle.node_restart.proofs.laws.ready_disks_have_rows.Goals as goal

pub returns : goal.returns
returns c = ready_rows
