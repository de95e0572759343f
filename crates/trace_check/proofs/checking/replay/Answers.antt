use Rattle.trace_check.proofs.AnswerLemmas.{because_ok, right_ok}
use Rattle.trace_check.proofs.checking.replay.Goals as goal

pub returns-clause-right : goal.returns-clause-right
returns-clause-right c =
    right_ok c.compared.result c.args.shape c.args.life _ c.in_ok-logs.logs c.in_ok-logs.why c.in_ok-logs.ensures
    c.compared.ensures.made

pub returns-clause-err : goal.returns-clause-err
returns-clause-err c =
    because_ok c.compared.result c.args.bytes.now c.args.shape c.args.life c.as_slice-all.result.now
    c.as_slice-those.result.now _ c.in_ok-logs.logs c.in_ok-logs.why c.requires c.as_slice-all.ensures
    c.as_slice-those.ensures c.in_ok-run.ensures.sorted c.in_ok-run.ensures.run c.in_ok-logs.ensures
    c.compared.ensures.unwanted c.compared.ensures.err
