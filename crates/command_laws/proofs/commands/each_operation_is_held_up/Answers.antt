use Rattle.command_laws.proofs.operations.HeldUp.{each_held_up}
use Rattle.command_laws.proofs.commands.each_operation_is_held_up.Goals as goal

pub returns : goal.returns
returns c = each_held_up
