use Rattle.calm_laws.proofs.plain_steps.Parts.{main_parts_step, parts_step}
use Rattle.calm_laws.proofs.plain_steps.Shell.{shells_step}
use Rattle.calm_laws.proofs.steps.steps_are_alike.Goals as goal

pub returns : goal.returns
returns c = record { shell = shells_step; main_parts = main_parts_step; parts = parts_step }
