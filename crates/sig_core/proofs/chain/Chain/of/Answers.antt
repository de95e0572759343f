use Rattle.std.proofs.Common.{◌≤◌, length, subst, sym}
use Rattle.sig_core.proofs.ChainLemmas.{filled_by}
use Rattle.sig_core.proofs.chain.Chain.of.Goals as goal

pub loop-replica-preserved : goal.loop-replica-preserved
loop-replica-preserved c =
    filled_by c.as_slice-replica-items.result.now c.loop-replica.nodes c.loop-replica.starts c.loop-replica.len
    c.loop-replica.replica-index
    (subst (λ replicas. length replicas ≤ 8) (sym c.as_slice-replica-items.ensures.value)
    c.as_slice-replica-items.ensures.most)
    c.loop-replica-test.true c.loop-replica.invariant
