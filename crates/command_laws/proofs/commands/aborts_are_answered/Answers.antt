use Rattle.answer_laws.proofs.Answers.{each_answered}
use Rattle.command_laws.proofs.ends.AbortAnswered.{aborts_answered}
use Rattle.command_laws.proofs.commands.aborts_are_answered.Goals as goal

pub returns : goal.returns
returns c = aborts_answered each_answered
