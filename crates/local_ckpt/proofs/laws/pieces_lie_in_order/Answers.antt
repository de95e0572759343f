use Rattle.local_ckpt.proofs.LawLemmas.{pieces_are}
use Rattle.local_ckpt.proofs.laws.pieces_lie_in_order.Goals as goal

pub returns : goal.returns
returns c = pieces_are
