use Rattle.closing_laws.proofs.counted.OrForgotten.{uncounted_are_forgotten}
use Rattle.closing_laws.proofs.counted.ForgottenAreDone.{forgotten_are_done}
use Rattle.closing_laws.proofs.closing_laws.ended_ones_are_done.Goals as goal

pub returns-clause-uncounted : goal.returns-clause-uncounted
returns-clause-uncounted c = uncounted_are_forgotten

pub returns-clause-forgotten : goal.returns-clause-forgotten
returns-clause-forgotten c = forgotten_are_done
