use Rattle.std.proofs.Common.{ap}
use Rattle.link_queue.specs.declared.rule.PassView.{PassView}
use Rattle.link_queue.proofs.Steps.{takes}
use Rattle.link_queue.proofs.taker.LinkRx.take.Goals as goal

pub pop_as-requires-clause-rule : goal.pop_as-requires-clause-rule
pop_as-requires-clause-rule g c =
    (takes _ _ (ap (λ (v : PassView). v.takes) c.self.invariant.1), λ held views kept at. tt)
