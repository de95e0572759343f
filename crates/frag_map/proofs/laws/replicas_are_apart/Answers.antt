use Rattle.frag_map.proofs.FirstReplicas.{first_apart}
use Rattle.frag_map.proofs.laws.replicas_are_apart.Goals as goal

pub returns : goal.returns
returns c = first_apart
