use Rattle.std.proofs.Common.{ap, sym, ◌∙◌, map, take, arith}
use Rattle.std.proofs.lemmas.List.{length-take-le}
use Rattle.sig_core.specs.declared.member.Member.{Member}
use Rattle.sig_core.proofs.ChainLemmas.{nodes-members_by}
use Rattle.sig_core.proofs.chain.Chain.nodes.Goals as goal

pub returns-clause-value : goal.returns-clause-value
returns-clause-value c =
    let nodes = c.self.inside.nodes in
    let starts = c.self.inside.starts in
    let node_inside = length-take-le c.self.inside.len nodes (omega (arith, c.self.invariant, c.self.told.0)) in
    let start_inside = length-take-le c.self.inside.len starts (omega (arith, c.self.invariant, c.self.told.1)) in
    sym (nodes-members_by (take c.self.inside.len nodes) (take c.self.inside.len starts)
    (node_inside ∙ sym start_inside))
    ∙ ap (λ chain. map (λ (replica : Member). replica.node) chain) c.self.view_is
