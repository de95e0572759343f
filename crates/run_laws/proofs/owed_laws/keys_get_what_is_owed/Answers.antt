use Rattle.run_laws.proofs.circle.DecidedSettled.{decided_settled}
use Rattle.run_laws.proofs.tokens.Owing.{events_owed}
use Rattle.run_laws.proofs.owed_laws.keys_get_what_is_owed.Goals as goal

pub returns-clause-events : goal.returns-clause-events
returns-clause-events c = events_owed

pub returns-clause-decided : goal.returns-clause-decided
returns-clause-decided c = decided_settled
