use Rattle.command_laws.proofs.quiet.RequestsAnswered.{requests_answered}
use Rattle.command_laws.proofs.commands.requests_are_answered.Goals as goal

pub returns : goal.returns
returns c = requests_answered
