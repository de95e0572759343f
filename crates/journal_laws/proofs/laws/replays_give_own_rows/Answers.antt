use Rattle.journal_laws.proofs.replays.Replays.{replays}
use Rattle.journal_laws.proofs.laws.replays_give_own_rows.Goals as goal

pub returns : goal.returns
returns c = replays
