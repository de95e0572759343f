use Rattle.std.proofs.Common.{refl, sym, ◌∙◌, true≢false}
use Rattle.serial_model.proofs.LegalLemmas.{first_wrong, replayed_more}
use Rattle.serial_model.proofs.legal.replay_ops.Goals as goal

pub returns-then-not-is_same-clause-fault : goal.returns-then-not-is_same-clause-fault
returns-then-not-is_same-clause-fault c =
    first_wrong c.args.table.now c.loop-at.table c.args.ops.now c.loop-at.at c.index-ops-at.result c.in-Ok.found
    c.loop-at-test.true c.index-ops-at.is c.loop-at.invariant c.in-Ok.ensures.answer
    (λ same. true≢false (sym (c.if-not-is_same.ensures.1 same)))

pub loop-at-preserved : goal.loop-at-preserved
loop-at-preserved c =
    replayed_more c.args.table.now c.loop-at.table c.do_op.new.table c.args.ops.now c.loop-at.at c.index-ops-at.result
    c.loop-at-test.true c.index-ops-at.is c.loop-at.invariant (c.if-not-is_same.ensures.0 refl ∙ c.in-Ok.ensures.answer)
    c.in-Ok.ensures.rows
