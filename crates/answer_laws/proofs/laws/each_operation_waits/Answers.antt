use Rattle.answer_laws.proofs.Ops.{operations_wait}
use Rattle.answer_laws.proofs.laws.each_operation_waits.Goals as goal

pub returns : goal.returns
returns c = operations_wait
