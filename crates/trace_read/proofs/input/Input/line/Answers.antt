use Rattle.trace_bytes.specs.Lines.{line_at, line_of}
use Rattle.trace_read.proofs.Behind.{kind_read}
use Rattle.trace_read.proofs.input.Input.line.Goals as goal

pub returns : goal.returns
unfolding line_at
returns c =
    kind_read 0 6 line_of c.args.self.now c.byte.new.self c.in_ok-number.number c.line_of.result c.line_of.new.self
    c.in_ok-number.ensures.read c.line_of.ensures
