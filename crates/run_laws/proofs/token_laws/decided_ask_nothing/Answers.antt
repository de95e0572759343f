use Rattle.run_laws.proofs.causes.Undecided.{carried_out_have_none, decided_have_none}
use Rattle.run_laws.proofs.token_laws.decided_ask_nothing.Goals as goal

pub returns-clause-decided : goal.returns-clause-decided
returns-clause-decided c = decided_have_none

pub returns-clause-carried : goal.returns-clause-carried
returns-clause-carried c = carried_out_have_none
