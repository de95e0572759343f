use Rattle.trace_bytes.specs.Works.{work_at, work_of}
use Rattle.trace_read.proofs.Behind.{kind_read_or_wants}
use Rattle.trace_read.proofs.read.works.read_work.Goals as goal

pub returns : goal.returns
unfolding work_at
returns c =
    kind_read_or_wants 0 10 work_of c.args.input.now c.byte.new.self c.in_ok-number.number c.work_of.result
    c.work_of.new.input c.in_ok-number.ensures.read c.work_of.ensures
