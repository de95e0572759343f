use Rattle.disk_laws.proofs.KeptLaw.{kept_is_found}
use Rattle.disk_laws.proofs.laws.what_is_kept_is_found.Goals as goal

pub returns : goal.returns
returns c = kept_is_found
