use Rattle.std.proofs.Common.{ap, ◌∙◌}
use Rattle.crossbeam_queue.specs.Passes.{view}
use Rattle.link_queue.specs.declared.rule.PassView.{PassView}
use Rattle.link_queue.proofs.Ends.{asides, merges, whole, parts}
use Rattle.link_queue.proofs.link.compare.Goals as goal

pub another-aside-requires-clause-rule : goal.another-aside-requires-clause-rule
another-aside-requires-clause-rule c = asides _ _

pub absorb-requires-clause-rule : goal.absorb-requires-clause-rule
absorb-requires-clause-rule c =
    let sender = c.another-aside.ensures.rule.0 ∙ c.tx.invariant.1 in
    let taker = ap (λ p. view {V = PassView} p) c.replace-theirs.ensures.value ∙ c.rx.invariant.1 in
    merges _ _ _ _ (ap (λ (v : PassView). v.sends) sender) (ap (λ (v : PassView). v.takes) taker)

pub learn_as-requires-clause-rule : goal.learn_as-requires-clause-rule
learn_as-requires-clause-rule c =
    let is = c.absorb.ensures.rule in
    whole _ _ (ap (λ (v : PassView). v.sends) is) (ap (λ (v : PassView). v.takes) is)

pub another-requires-clause-rule : goal.another-requires-clause-rule
another-requires-clause-rule c =
    let is = c.learn_as.ensures.queue.1 ∙ c.absorb.ensures.rule in
    parts _ _ (ap (λ (v : PassView). v.sends) is) (ap (λ (v : PassView). v.takes) is)
