use Rattle.closing_laws.proofs.closers.Hear.{closers_have_heard_all}
use Rattle.closing_laws.proofs.closing_laws.closers_have_heard_all.Goals as goal

pub returns : goal.returns
returns c = closers_have_heard_all
