use Rattle.answer_laws.proofs.Answers.{each_answered}
use Rattle.command_laws.proofs.lone.Committed.{lone_committed}
use Rattle.command_laws.proofs.commands.lone_operations_are_committed.Goals as goal

pub returns : goal.returns
returns c = lone_committed each_answered
