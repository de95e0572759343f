use Rattle.std.proofs.Common.{ap}
use Rattle.link_queue.specs.declared.rule.PassView.{PassView}
use Rattle.link_queue.proofs.Ends.{merges, whole}
use Rattle.link_queue.proofs.link.join.Goals as goal

pub absorb-requires-clause-rule : goal.absorb-requires-clause-rule
absorb-requires-clause-rule c =
    merges _ _ _ _ (ap (λ (v : PassView). v.sends) c.tx.invariant.1) (ap (λ (v : PassView). v.takes) c.rx.invariant.1)

pub learn_as-requires-clause-rule : goal.learn_as-requires-clause-rule
learn_as-requires-clause-rule c =
    let is = c.absorb.ensures.rule in
    whole _ _ (ap (λ (v : PassView). v.sends) is) (ap (λ (v : PassView). v.takes) is)
