use Rattle.view_laws.proofs.memberships.AlongEvents.{have_risen}
use Rattle.view_laws.proofs.member_laws.promises_rise.Goals as goal

pub returns : goal.returns
returns c = have_risen
