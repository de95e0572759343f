use Rattle.request_laws.proofs.phases.Stands.{coordinators_stand}
use Rattle.request_laws.proofs.phase_laws.coordinators_stand.Goals as goal

pub returns : goal.returns
returns c = coordinators_stand
