use Rattle.trace_bytes.specs.Operations.{rowwork_at, rowwork_of}
use Rattle.trace_read.proofs.Behind.{kind_read}
use Rattle.trace_read.proofs.input.Input.rowwork.Goals as goal

pub returns : goal.returns
unfolding rowwork_at
returns c =
    kind_read 0 1 rowwork_of c.args.self.now c.byte.new.self c.in_ok-number.number c.rowwork_of.result
    c.rowwork_of.new.self
    c.in_ok-number.ensures.read c.rowwork_of.ensures
