use Rattle.disk_laws.proofs.owner_of.Kept.{owners_kept}
use Rattle.disk_laws.proofs.owners.owners_are_kept.Goals as goal

pub returns : goal.returns
returns c = owners_kept
