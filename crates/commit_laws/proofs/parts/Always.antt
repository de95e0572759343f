-- Each event keeps the parts of operations that are under way true, and other keys settled.
use Rattle.commit_laws.specs.Together.{EventsKeepParts}
use Rattle.commit_laws.proofs.views.ConfirmedFenced.{confirmed_fenced_now}
use Rattle.commit_laws.proofs.views.CurrentFenced.{current_fenced}
use Rattle.commit_laws.proofs.parts.IfRaised.{events_keep_parts}
use Rattle.commit_laws.proofs.parts.Raised.{fenced_parts}

pub parts_kept : EventsKeepParts
parts_kept = events_keep_parts (fenced_parts (current_fenced confirmed_fenced_now))
