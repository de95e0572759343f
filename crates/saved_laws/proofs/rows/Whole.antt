-- The rows that members have saved are those of the history: what that rests on is so.
use Rattle.saved_laws.specs.History.{SavedRowsAreHistory}
use Rattle.saved_laws.proofs.masters.Closed.{saved_were_closed}
use Rattle.saved_laws.proofs.rows.All.{saved_rows_history}
use Rattle.saved_laws.proofs.settled.ClosedOnes.{closed_ones_are_committed}
use Rattle.saved_laws.proofs.settled.CommittedOnes.{committed_ones_are_final}
use Rattle.saved_laws.proofs.settled.TakenCommits.{commits_were_decided}

pub saved_rows_are_history : SavedRowsAreHistory
saved_rows_are_history =
    saved_rows_history saved_were_closed closed_ones_are_committed committed_ones_are_final commits_were_decided
