use Rattle.closing_laws.proofs.takeover.Done.{over_leaves}
use Rattle.closing_laws.proofs.closing_laws.takeovers_leave_none.Goals as goal

pub returns : goal.returns
returns c = over_leaves
