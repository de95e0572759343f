use Rattle.redo_log.proofs.PieceLemmas.{writes_lay}
use Rattle.redo_log.proofs.laws.writes_lay_pieces.Goals as goal

pub returns : goal.returns
returns c = writes_lay
