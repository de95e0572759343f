use Rattle.command_laws.proofs.waits.Aborted.{waiting_aborts_heard}
use Rattle.command_laws.proofs.commands.waiting_aborts_are_heard.Goals as goal

pub returns : goal.returns
returns c = waiting_aborts_heard
