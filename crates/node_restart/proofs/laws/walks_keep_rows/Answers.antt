use Rattle.node_restart.proofs.NamingLemmas.{walks_keep}
use Rattle.node_restart.proofs.laws.walks_keep_rows.Goals as goal

pub returns : goal.returns
returns c = walks_keep
