use Rattle.redo_log.proofs.PieceLemmas.{pieces_stored}
use Rattle.redo_log.proofs.laws.pieces_are_stored.Goals as goal

pub returns : goal.returns
returns c = pieces_stored
