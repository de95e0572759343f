use Rattle.std.proofs.Common.{arith}
use Rattle.linear_hash.proofs.HomeLemmas.{home-below, home-split}
use Rattle.linear_hash.proofs.growth.home_of.Goals as goal

-- the bucket was split
pub returns-then-low-growth-clause-below : goal.returns-then-low-growth-clause-below
returns-then-low-growth-clause-below c =
    let below = home-below c.args.growth c.requires c.args.hash in
    omega (arith, below, home-split c.args.growth c.args.hash c.if-low-growth.true)
