use Rattle.local_ckpt.proofs.LockLemmas.{may_begin}
use Rattle.local_ckpt.proofs.laws.walks_may_begin.Goals as goal

pub returns : goal.returns
returns c = may_begin
