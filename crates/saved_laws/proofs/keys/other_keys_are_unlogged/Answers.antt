use Rattle.saved_laws.proofs.others.Unlogged.{other_keys_are_unlogged}
use Rattle.saved_laws.proofs.keys.other_keys_are_unlogged.Goals as goal

pub returns : goal.returns
returns c = other_keys_are_unlogged
