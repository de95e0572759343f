use Rattle.command_laws.proofs.operations.ComesTo.{operations_come_to}
use Rattle.command_laws.proofs.commands.operations_come_to_something.Goals as goal

pub returns : goal.returns
returns c = operations_come_to
