use Rattle.host_laws.proofs.rows.Replicas.{keys_begin_at_rest, logs_keep_well, signals_are_events, signals_keep_well}
use Rattle.host_laws.proofs.replica_laws.replicas_are_their_keys.Goals as goal

pub returns-clause-events : goal.returns-clause-events
returns-clause-events c = signals_are_events

pub returns-clause-well : goal.returns-clause-well
returns-clause-well c = signals_keep_well

pub returns-clause-logs : goal.returns-clause-logs
returns-clause-logs c = logs_keep_well

pub returns-clause-begin : goal.returns-clause-begin
returns-clause-begin c = keys_begin_at_rest
