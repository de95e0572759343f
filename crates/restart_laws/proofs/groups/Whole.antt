-- What is restored is the history: what that rests on is so.
use Rattle.journal_laws.proofs.replays.Replays.{replays}
use Rattle.saved_laws.proofs.masters.All.{copied_were_saved, durable_were_noted}
use Rattle.saved_laws.proofs.masters.Done.{done_were_marked}
use Rattle.saved_laws.proofs.others.Stay.{other_keys_stay}
use Rattle.saved_laws.proofs.others.Unlogged.{other_keys_are_unlogged}
use Rattle.saved_laws.proofs.rows.Whole.{saved_rows_are_history}
use Rattle.restart_laws.specs.Restart.{RestartsAreHistory}
use Rattle.restart_laws.proofs.groups.All.{restarts_history}

pub restarts_as_history : RestartsAreHistory
restarts_as_history =
    restarts_history copied_were_saved durable_were_noted done_were_marked saved_rows_are_history replays
    other_keys_stay other_keys_are_unlogged
