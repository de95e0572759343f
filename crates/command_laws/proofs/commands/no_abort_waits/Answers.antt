use Rattle.command_laws.proofs.quiet.NoAbortWaits.{no_abort_waits}
use Rattle.command_laws.proofs.commands.no_abort_waits.Goals as goal

pub returns : goal.returns
returns c = no_abort_waits
