use Rattle.trace_bytes.specs.Operations.{uanswer_at, uanswer_of}
use Rattle.trace_read.proofs.Behind.{kind_read}
use Rattle.trace_read.proofs.input.Input.uanswer.Goals as goal

pub returns : goal.returns
unfolding uanswer_at
returns c =
    kind_read 0 3 uanswer_of c.args.self.now c.byte.new.self c.in_ok-number.number c.uanswer_of.result
    c.uanswer_of.new.self
    c.in_ok-number.ensures.read c.uanswer_of.ensures
