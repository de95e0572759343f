use Rattle.linear_hash.proofs.SplitLemmas.{split-view}
use Rattle.linear_hash.proofs.buckets.Buckets.split.Goals as goal

-- the next bucket was split
pub returns-clause-ok : goal.returns-clause-ok
returns-clause-ok c =
    split-view c.self.inside.growth c.in-Some.next c.self.invariant.0
    c.self.inside.buckets.items c.split_at.new.buckets.items
    c.args.self.now c.self.view_is c.in-Some.ensures.value c.self.invariant.1 c.in_ok-split_at.ensures.ok
