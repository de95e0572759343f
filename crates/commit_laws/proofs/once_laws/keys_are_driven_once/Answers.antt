use Rattle.commit_laws.proofs.orders.Together.{keys_once}
use Rattle.commit_laws.proofs.once_laws.keys_are_driven_once.Goals as goal

pub returns : goal.returns
returns c = keys_once
