use Rattle.host_laws.proofs.rows.Replicas.{keys_have_rows, logs_follow, nodes_begin}
use Rattle.host_laws.proofs.replica_laws.logs_follow_events.Goals as goal

pub returns-clause-steps : goal.returns-clause-steps
returns-clause-steps c = logs_follow

pub returns-clause-begin : goal.returns-clause-begin
returns-clause-begin c = nodes_begin

pub returns-clause-rows : goal.returns-clause-rows
returns-clause-rows c = keys_have_rows
