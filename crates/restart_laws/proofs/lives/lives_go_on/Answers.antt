use Rattle.restart_laws.proofs.lived.Goes.{lives_go_on}
use Rattle.restart_laws.proofs.lives.lives_go_on.Goals as goal

pub returns : goal.returns
returns c = lives_go_on c.walked_checkpoints_stand.ensures c.saved_before_is_durable.ensures
