use Rattle.answer_laws.proofs.Queued.{operations_queue}
use Rattle.answer_laws.proofs.laws.each_operation_is_queued.Goals as goal

pub returns : goal.returns
returns c = operations_queue
