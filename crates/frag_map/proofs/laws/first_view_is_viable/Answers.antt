use Rattle.frag_map.proofs.FirstReplicas.{first_viable}
use Rattle.frag_map.proofs.laws.first_view_is_viable.Goals as goal

pub returns : goal.returns
returns c = first_viable
