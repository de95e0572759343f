use Rattle.std.proofs.Common.{arith}
use Rattle.sig_core.proofs.ChainLemmas.{listed_by}
use Rattle.sig_core.proofs.chain.Chain.members.Goals as goal

pub loop-at-preserved : goal.loop-at-preserved
loop-at-preserved c =
    listed_by c.self.inside.nodes c.self.inside.starts c.loop-at.members c.push.new.self c.loop-at.at
    (omega (arith, c.loop-at-test.true, c.self.invariant)) c.self.told c.loop-at.invariant c.push.ensures
