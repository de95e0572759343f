use Rattle.restart_laws.proofs.telling.All.{steps_tell_what_is_kept}
use Rattle.restart_laws.proofs.told.steps_tell_what_is_kept.Goals as goal

pub returns : goal.returns
returns c = steps_tell_what_is_kept
