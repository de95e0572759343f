use Rattle.frag_map.proofs.FirstReplicas.{first_all}
use Rattle.frag_map.proofs.laws.group_has_all_replicas.Goals as goal

pub returns : goal.returns
returns c = first_all
