use Rattle.trace_bytes.specs.Places.{block_at, block_of}
use Rattle.trace_read.proofs.Behind.{kind_read}
use Rattle.trace_read.proofs.input.Input.block.Goals as goal

pub returns : goal.returns
unfolding block_at
returns c =
    kind_read 0 11 block_of c.args.self.now c.byte.new.self c.in_ok-number.number c.block_of.result c.block_of.new.self
    c.in_ok-number.ensures.read c.block_of.ensures
