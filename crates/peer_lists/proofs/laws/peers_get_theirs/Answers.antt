use Rattle.peer_lists.proofs.Deliveries.{peers_get}
use Rattle.peer_lists.proofs.Places.{delivered_links}
use Rattle.peer_lists.proofs.laws.peers_get_theirs.Goals as goal

pub returns-clause-peers : goal.returns-clause-peers
returns-clause-peers c = peers_get

pub returns-clause-links : goal.returns-clause-links
returns-clause-links c = delivered_links
