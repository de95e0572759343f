use Rattle.run_laws.proofs.tokens.NoneWait.{none_wait_beside, none_wait_where_carried_out}
use Rattle.run_laws.proofs.token_laws.requests_stand_alone.Goals as goal

pub returns-clause-beside : goal.returns-clause-beside
returns-clause-beside c = none_wait_beside

pub returns-clause-carried : goal.returns-clause-carried
returns-clause-carried c = none_wait_where_carried_out
