use Rattle.std.proofs.Common.{arith}
use Rattle.trace_check.proofs.CompareLemmas.{found, one_more}
use Rattle.trace_check.proofs.compare.first_fault.Goals as goal

pub loop-place-init : goal.loop-place-init
loop-place-init c = λ i place low here. absurd (omega (arith, low))

pub loop-place-preserved : goal.loop-place-preserved
loop-place-preserved c =
    one_more c.args.told.now c.args.made.now c.args.run.now c.loop-place.place-index _ c.loop-place-test.true _
    c.loop-place.invariant c.in_ok-is_same_at.ensures c.if-not-branch.false

pub returns-then-not-branch : goal.returns-then-not-branch
returns-then-not-branch c =
    found c.args.told.now c.args.made.now c.args.run.now c.loop-place.place-index _ c.loop-place-test.true _
    c.args.why _ c.loop-place.invariant c.in_ok-is_same_at.ensures c.if-not-branch.true c.cause_of.ensures
