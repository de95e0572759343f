use Rattle.trace_bytes.specs.Operations.{answer_at, answer_of}
use Rattle.trace_read.proofs.Behind.{kind_read}
use Rattle.trace_read.proofs.input.Input.answer.Goals as goal

pub returns : goal.returns
unfolding answer_at
returns c =
    kind_read 0 4 answer_of c.args.self.now c.byte.new.self c.in_ok-number.number c.answer_of.result
    c.answer_of.new.self
    c.in_ok-number.ensures.read c.answer_of.ensures
