use Rattle.request_laws.proofs.replicas.AlongLogs.{rows_well}
use Rattle.request_laws.proofs.replica_laws.rows_of_members_are_well.Goals as goal

pub returns : goal.returns
returns c = rows_well
