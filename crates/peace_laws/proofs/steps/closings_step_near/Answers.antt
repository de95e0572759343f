use Rattle.peace_laws.proofs.closings.AskingSteps.{closings_are_asked_near}
use Rattle.peace_laws.proofs.closings.Steps.{closings_step_near}
use Rattle.peace_laws.proofs.steps.closings_step_near.Goals as goal

pub returns : goal.returns
returns c = record { steps = closings_step_near; asked = closings_are_asked_near }
