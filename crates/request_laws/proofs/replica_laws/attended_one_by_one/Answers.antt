use Rattle.request_laws.proofs.replicas.Waits.{installed_are_attended, signals_keep_attended}
use Rattle.request_laws.proofs.replica_laws.attended_one_by_one.Goals as goal

pub returns-clause-signals : goal.returns-clause-signals
returns-clause-signals c = signals_keep_attended

pub returns-clause-installations : goal.returns-clause-installations
returns-clause-installations c = installed_are_attended
