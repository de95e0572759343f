use Rattle.std.proofs.Common.{arith}
use Rattle.trace_read.proofs.Found.{found}
use Rattle.trace_read.proofs.trace.read_trace.Goals as goal

pub returns-clause-found : goal.returns-clause-found
returns-clause-found c = found c.args.bytes.now c.told.result (λ i. omega (arith, c.type_inv.bytes i)) c.told.ensures
