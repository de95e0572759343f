use Rattle.std.proofs.Common.{ap, sym}
use Rattle.trace_check.specs.Histories.{is_sign, log_of}
use Rattle.trace_check.proofs.HistoryLemmas.{have_found, have_more}
use Rattle.trace_check.proofs.effects.have_anywhere.Goals as goal

pub returns-then-has_sign : goal.returns-then-has_sign
returns-then-has_sign c =
    sym (have_found (is_sign c.args.writes c.args.tx) c.args.logs.now c.args.hosts c.loop-host.host
    c.steps_of.result.now _ (ap (log_of c.loop-host.host) c.steps_of.ensures) c.loop-host-test.true c.has_sign.ensures
    c.if-has_sign.true)

pub loop-host-preserved : goal.loop-host-preserved
loop-host-preserved c =
    have_more (is_sign c.args.writes c.args.tx) c.args.logs.now c.loop-host.host c.steps_of.result.now _
    (ap (log_of c.loop-host.host) c.steps_of.ensures) c.loop-host.invariant c.has_sign.ensures c.if-has_sign.false
