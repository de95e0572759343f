use Rattle.answer_laws.proofs.Answers.{each_answered}
use Rattle.command_laws.proofs.operations.HeldUp.{each_held_up}
use Rattle.command_laws.proofs.waits.HoldersTold.{holders_told}
use Rattle.command_laws.proofs.commands.holders_are_told.Goals as goal

pub returns : goal.returns
returns c = holders_told each_answered each_held_up
