use Rattle.ndb_console.proofs.TakenLines.{no_line_is_refused}
use Rattle.ndb_console.proofs.laws.no_line_is_refused.Goals as goal

pub returns : goal.returns
returns c = no_line_is_refused
