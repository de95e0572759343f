use Rattle.std.proofs.Common.{refl, ap, sym, ◌∙◌}
use Rattle.trace_check.specs.Histories.{is_sign, log_of}
use Rattle.trace_check.proofs.HistoryLemmas.{have_found}
use Rattle.trace_check.proofs.effects.have_near.Goals as goal

pub returns-then-has_sign : goal.returns-then-has_sign
returns-then-has_sign c = λ shown.
    have_found (is_sign c.args.writes c.args.tx) c.args.logs.now c.args.hosts c.loop-host.host
    c.steps_of.result.now _ (ap (log_of c.loop-host.host) c.steps_of.ensures) c.loop-host-test.true
    (sym (c.near.ensures (is_sign c.args.writes c.args.tx) (sym c.has_sign.ensures ∙ c.if-has_sign.true))) refl
