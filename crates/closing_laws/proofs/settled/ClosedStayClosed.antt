-- Closed epochs stay closed: what that rests on stands.
use Rattle.closing_laws.specs.Stays.{ClosedStayClosed}
use Rattle.closing_laws.proofs.closers.Hear.{closers_have_heard_all}
use Rattle.closing_laws.proofs.counted.OrForgotten.{uncounted_are_forgotten}
use Rattle.closing_laws.proofs.durable.All.{durable_were_closed}
use Rattle.closing_laws.proofs.counted.ForgottenAreDone.{forgotten_are_done}
use Rattle.closing_laws.proofs.takeover.Done.{over_leaves}
use Rattle.closing_laws.proofs.settled.All as stay

pub closed_stay_closed : ClosedStayClosed
closed_stay_closed =
    stay.closed_stay_closed closers_have_heard_all durable_were_closed uncounted_are_forgotten forgotten_are_done
    over_leaves
