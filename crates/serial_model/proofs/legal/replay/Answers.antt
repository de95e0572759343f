use Rattle.std.proofs.Common.{ap, ◌∙◌, subst}
use Rattle.serial_model.specs.Legal.{rows_of, AreAnswered, IsOpsFault, after_ops}
use Rattle.serial_model.proofs.LegalLemmas.{entries_more, fault_here}
use Rattle.serial_model.proofs.legal.replay.Goals as goal

pub loop-at-preserved : goal.loop-at-preserved
loop-at-preserved c =
    entries_more (rows_of c.args.start.now) c.loop-at.table c.replay_ops.new.table c.args.entries.now c.loop-at.at
    c.index-entries-at.result
    c.loop-at-test.true c.index-entries-at.is c.loop-at.invariant
    (subst (λ ops. AreAnswered c.loop-at.table ops) c.as_slice.ensures c.in-Ok-replay_ops.ensures.answered)
    (c.in-Ok-replay_ops.ensures.rows ∙ ap (λ ops. after_ops c.loop-at.table ops) c.as_slice.ensures)

pub returns-in-Err-clause-differs : goal.returns-in-Err-clause-differs
returns-in-Err-clause-differs c =
    rw c.fault_at.ensures
    (fault_here (rows_of c.args.start.now) c.loop-at.table c.args.entries.now c.loop-at.at c.index-entries-at.result
    c.in-Err.fault
    c.loop-at-test.true c.index-entries-at.is c.loop-at.invariant
    (subst (λ ops. IsOpsFault c.loop-at.table ops c.in-Err.fault) c.as_slice.ensures c.in-Err.ensures.fault))
