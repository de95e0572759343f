use Rattle.request_laws.proofs.replicas.Waits.{waits_have_requests}
use Rattle.request_laws.proofs.replica_laws.waiters_have_requests.Goals as goal

pub returns : goal.returns
returns c = waits_have_requests
