use Rattle.trace_bytes.specs.Causes.{outcome_at, outcome_of}
use Rattle.trace_read.proofs.Behind.{kind_read}
use Rattle.trace_read.proofs.input.Input.outcome.Goals as goal

pub returns : goal.returns
unfolding outcome_at
returns c =
    kind_read 0 2 outcome_of c.args.self.now c.byte.new.self c.in_ok-number.number c.outcome_of.result
    c.outcome_of.new.self
    c.in_ok-number.ensures.read c.outcome_of.ensures
