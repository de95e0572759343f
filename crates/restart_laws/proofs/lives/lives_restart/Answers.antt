use Rattle.restart_laws.proofs.lived.Ends.{lives_restart}
use Rattle.restart_laws.proofs.lives.lives_restart.Goals as goal

pub returns : goal.returns
returns c = lives_restart
