use Rattle.journal_laws.proofs.replays.OwnRows.{own_rows}
use Rattle.journal_laws.proofs.laws.own_rows_are_the_rows.Goals as goal

pub returns : goal.returns
returns c = own_rows
