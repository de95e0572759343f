use Rattle.answer_laws.proofs.Answers.{each_answered}
use Rattle.command_laws.proofs.lone.Answered.{lone_answered}
use Rattle.command_laws.proofs.commands.lone_operations_are_answered.Goals as goal

pub returns : goal.returns
returns c = lone_answered each_answered
