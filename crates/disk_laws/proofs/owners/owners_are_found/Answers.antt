use Rattle.disk_laws.proofs.owner_of.Found.{owners_found}
use Rattle.disk_laws.proofs.owners.owners_are_found.Goals as goal

pub returns : goal.returns
returns c = owners_found
