use Rattle.trace_bytes.specs.Causes.{cause_at, cause_of}
use Rattle.trace_read.proofs.Behind.{kind_read}
use Rattle.trace_read.proofs.input.Input.cause.Goals as goal

pub returns : goal.returns
unfolding cause_at
returns c =
    kind_read 0 5 cause_of c.args.self.now c.byte.new.self c.in_ok-number.number c.cause_of.result c.cause_of.new.self
    c.in_ok-number.ensures.read c.cause_of.ensures
