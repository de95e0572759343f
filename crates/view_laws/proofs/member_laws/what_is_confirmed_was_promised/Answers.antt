use Rattle.view_laws.proofs.memberships.AlongEvents.{are_of_promises}
use Rattle.view_laws.proofs.member_laws.what_is_confirmed_was_promised.Goals as goal

pub returns : goal.returns
returns c = are_of_promises
