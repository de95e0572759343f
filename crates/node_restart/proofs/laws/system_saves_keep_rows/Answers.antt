use Rattle.node_restart.proofs.SystemLaw.{system_keeps}
use Rattle.node_restart.proofs.laws.system_saves_keep_rows.Goals as goal

pub returns : goal.returns
returns c = system_keeps
