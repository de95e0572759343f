use Rattle.node_restart.proofs.NamingLemmas.{names_keep}
use Rattle.node_restart.proofs.laws.names_keep_rows.Goals as goal

pub returns : goal.returns
returns c = names_keep
