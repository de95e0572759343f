use Rattle.disk_laws.proofs.StepLaw.{steps_kept}
use Rattle.disk_laws.proofs.laws.steps_are_kept.Goals as goal

pub returns : goal.returns
returns c = steps_kept
