use Rattle.link_queue.proofs.Ends.{begins}
use Rattle.link_queue.proofs.link.make.Goals as goal

pub ruled-requires-clause-rule : goal.ruled-requires-clause-rule
ruled-requires-clause-rule c = begins
