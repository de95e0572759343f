use Rattle.std.proofs.Common.{arith, rules, ◌<◌}
use Rattle.copy_block.proofs.SendLemmas.{requests-count}
use Rattle.copy_block.proofs.sends.count_requests.Goals as goal

-- those for one fragment more are counted
pub loop-fragment-preserved : goal.loop-fragment-preserved
loop-fragment-preserved c =
    let n = c.args.layout.now.shape.fragments in
    let low : c.loop-fragment.fragment < n = search rules in
    let more = requests-count c.args.layout.now c.args.joiner.now n c.loop-fragment.fragment low in
    let one = c.count_request-count.ensures in
    let before = c.loop-fragment.invariant in
    record { left = omega (arith, more, one.value, before.left); few = omega (arith, one.few, before.few) }
