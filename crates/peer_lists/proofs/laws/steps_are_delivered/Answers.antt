use Rattle.peer_lists.proofs.Steps.{own_kept, peers_kept}
use Rattle.peer_lists.proofs.laws.steps_are_delivered.Goals as goal

pub returns-clause-peers : goal.returns-clause-peers
returns-clause-peers c = λ start h log e ps goes_on. peers_kept start h log e goes_on ps

pub returns-clause-own : goal.returns-clause-own
returns-clause-own c = λ start h log e gone own goes_on. own_kept start h log e goes_on gone own
