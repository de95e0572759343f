use Rattle.cause_laws.proofs.Causes.{aborts_caused}
use Rattle.cause_laws.proofs.laws.aborts_are_caused.Goals as goal

pub returns : goal.returns
returns c = aborts_caused
