use Rattle.trace_bytes.specs.Requests.{request_at, request_of}
use Rattle.trace_read.proofs.Behind.{kind_read_or_wants}
use Rattle.trace_read.proofs.read.requests.read_request.Goals as goal

pub returns : goal.returns
unfolding request_at
returns c =
    kind_read_or_wants 0 23 request_of c.args.input.now c.byte.new.self c.in_ok-number.number c.request_of.result
    c.request_of.new.input c.in_ok-number.ensures.read c.request_of.ensures
