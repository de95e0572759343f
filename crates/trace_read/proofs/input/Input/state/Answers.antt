use Rattle.trace_bytes.specs.Places.{state_at, state_of}
use Rattle.trace_read.proofs.Behind.{kind_read}
use Rattle.trace_read.proofs.input.Input.state.Goals as goal

pub returns : goal.returns
unfolding state_at
returns c =
    kind_read 0 2 state_of c.args.self.now c.byte.new.self c.in_ok-number.number c.state_of.result c.state_of.new.self
    c.in_ok-number.ensures.read c.state_of.ensures
