use Rattle.answer_laws.proofs.Asks.{each_asks_where_operating}
use Rattle.answer_laws.proofs.laws.each_asks_where_operating.Goals as goal

pub returns : goal.returns
returns c = each_asks_where_operating
