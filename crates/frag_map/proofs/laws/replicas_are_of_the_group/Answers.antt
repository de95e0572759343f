use Rattle.frag_map.proofs.FirstReplicas.{first_group}
use Rattle.frag_map.proofs.laws.replicas_are_of_the_group.Goals as goal

pub returns : goal.returns
returns c = first_group
