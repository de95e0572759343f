use Rattle.trace_bytes.specs.Marks.{mark_at, mark_of}
use Rattle.trace_read.proofs.Behind.{kind_read_or_wants}
use Rattle.trace_read.proofs.read.marks.read_mark.Goals as goal

pub returns : goal.returns
unfolding mark_at
returns c =
    kind_read_or_wants 0 12 mark_of c.args.input.now c.byte.new.self c.in_ok-number.number c.mark_of.result
    c.mark_of.new.input c.in_ok-number.ensures.read c.mark_of.ensures
