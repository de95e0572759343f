use Rattle.answer_laws.proofs.Answers.{each_answered}
use Rattle.command_laws.proofs.ends.Committed.{commits_committed}
use Rattle.command_laws.proofs.commands.commits_are_committed.Goals as goal

pub returns : goal.returns
returns c = commits_committed each_answered
