use Rattle.trace_bytes.specs.Operations.{op_at, op_of}
use Rattle.trace_read.proofs.Behind.{kind_read}
use Rattle.trace_read.proofs.input.Input.op.Goals as goal

pub returns : goal.returns
unfolding op_at
returns c =
    kind_read 0 5 op_of c.args.self.now c.byte.new.self c.in_ok-number.number c.op_of.result c.op_of.new.self
    c.in_ok-number.ensures.read c.op_of.ensures
