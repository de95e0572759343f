use Rattle.trace_bytes.specs.Causes.{stop_at, stop_of}
use Rattle.trace_read.proofs.Behind.{kind_read}
use Rattle.trace_read.proofs.input.Input.stop.Goals as goal

pub returns : goal.returns
unfolding stop_at
returns c =
    kind_read 0 6 stop_of c.args.self.now c.byte.new.self c.in_ok-number.number c.stop_of.result c.stop_of.new.self
    c.in_ok-number.ensures.read c.stop_of.ensures
