use Rattle.trace_bytes.specs.Bodies.{body_at, body_of}
use Rattle.trace_read.proofs.Behind.{kind_read_or_wants}
use Rattle.trace_read.proofs.read.bodies.read_body.Goals as goal

pub returns : goal.returns
unfolding body_at
returns c =
    kind_read_or_wants 0 120 body_of c.args.input.now c.byte.new.self c.in_ok-number.number c.body_of.result
    c.body_of.new.input c.in_ok-number.ensures.read c.body_of.ensures
