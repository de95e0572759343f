use Rattle.sysfile_core.proofs.StepLemmas.{steps_are_calls}
use Rattle.sysfile_core.proofs.laws.the_steps_are_the_calls.Goals as goal

pub returns : goal.returns
returns c = steps_are_calls
