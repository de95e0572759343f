use Rattle.journal_laws.proofs.walks.Standing.{stand}
use Rattle.journal_laws.proofs.checkpoints.local_checkpoints_stand.Goals as goal

pub returns : goal.returns
returns c = stand c.checkpoints_are_read.ensures
