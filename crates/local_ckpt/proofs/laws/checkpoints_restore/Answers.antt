use Rattle.local_ckpt.proofs.LawLemmas.{restore}
use Rattle.local_ckpt.proofs.laws.checkpoints_restore.Goals as goal

pub returns : goal.returns
returns c = restore c.checkpoints_are_read.ensures
