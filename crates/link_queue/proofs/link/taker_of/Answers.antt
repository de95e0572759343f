use Rattle.link_queue.proofs.Ends.{ends}
use Rattle.link_queue.proofs.link.taker_of.Goals as goal

pub another-requires-clause-rule : goal.another-requires-clause-rule
another-requires-clause-rule g c = ends g.J.Route.from g.J.Route.to _ _ c.requires.first
