use Rattle.request_laws.proofs.tokens.Alone.{quiet_unless_asked, taken_alone, waiting_alone}
use Rattle.request_laws.proofs.token_laws.nothing_else_is_under_way.Goals as goal

pub returns-clause-takes : goal.returns-clause-takes
returns-clause-takes c = taken_alone

pub returns-clause-waits : goal.returns-clause-waits
returns-clause-waits c = waiting_alone

pub returns-clause-quiet : goal.returns-clause-quiet
returns-clause-quiet c = quiet_unless_asked
