use Rattle.answer_laws.proofs.Answers.{each_answered}
use Rattle.command_laws.proofs.operations.Answered.{operations_answered}
use Rattle.command_laws.proofs.commands.operations_are_answered.Goals as goal

pub returns : goal.returns
returns c = operations_answered each_answered
