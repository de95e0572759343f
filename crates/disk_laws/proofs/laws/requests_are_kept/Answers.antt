use Rattle.disk_laws.proofs.RequestLaw.{requests_kept}
use Rattle.disk_laws.proofs.laws.requests_are_kept.Goals as goal

pub returns : goal.returns
returns c = requests_kept
