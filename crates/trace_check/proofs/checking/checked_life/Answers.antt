use Rattle.trace_check.proofs.AnswerLemmas.{other_hosts}
use Rattle.trace_check.proofs.checking.checked_life.Goals as goal

pub returns-then-not-are_labelled-clause-err : goal.returns-then-not-are_labelled-clause-err
returns-then-not-are_labelled-clause-err c =
    other_hosts c.args.bytes.now c.in_ok-shape.shape c.in_ok-shape.life c.as_slice-logs.result.now _
    c.in_ok-shape.ensures.ok c.as_slice-logs.ensures c.are_labelled.ensures c.if-not-are_labelled.true
