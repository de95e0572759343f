use Rattle.frag_map.proofs.FirstReplicas.{first_apart}
use Rattle.run_laws.proofs.routes.Chain.{replicas_are_nodes}
use Rattle.run_laws.proofs.route_laws.replicas_are_nodes.Goals as goal

pub returns-clause-apart : goal.returns-clause-apart
returns-clause-apart c = first_apart

pub returns-clause-nodes : goal.returns-clause-nodes
returns-clause-nodes c = replicas_are_nodes
