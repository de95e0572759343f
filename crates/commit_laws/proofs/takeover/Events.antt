-- Events keep what stands of takeovers, and who speaks truly, if takeovers are told of all that members have.
use Rattle.commit_laws.specs.Gathering.{GatheringsAreWhole}
use Rattle.commit_laws.specs.Together.{EventsKeepSpoken, EventsKeepTakeovers}
use Rattle.commit_laws.proofs.forth.All.{forth_is_known}
use Rattle.commit_laws.proofs.fates.SpokenEvents.{spoken_next}
use Rattle.commit_laws.proofs.takeover.GoesOn.{takeover_goes}
use Rattle.commit_laws.proofs.takeover.Next.{takeover_next}
use Rattle.commit_laws.proofs.takeover.Told.{reports_next}
use Rattle.commit_laws.proofs.takeover.Words.{IsRight}
use Rattle.std.proofs.Common.{◌∷◌}
use Rattle.moment_laws.specs.Moments.{logs_of}

pub events_keep_takeovers : GatheringsAreWhole → EventsKeepTakeovers
events_keep_takeovers whole start all e es follows moves = record {
  each = takeover_next whole start all e es follows moves;
  reports = reports_next start all e es follows moves;
}

pub events_keep_spoken : GatheringsAreWhole → EventsKeepSpoken
events_keep_spoken whole start all e es follows moves =
    spoken_next forth_is_known start all e es follows moves (IsRight start (logs_of start (e ∷ es)))
    (λ member there at. takeover_goes start all e es follows moves member there whole at)
