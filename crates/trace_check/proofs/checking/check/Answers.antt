use Rattle.trace_check.proofs.AnswerLemmas.{history_is}
use Rattle.trace_check.proofs.checking.check.Goals as goal

pub returns-clause-history : goal.returns-clause-history
returns-clause-history c =
    history_is c.in_ok-shape.shape c.in_ok-shape.life c.as_slice-logs.result.now _ c.as_slice-logs.ensures
    c.in_ok-history.ensures
