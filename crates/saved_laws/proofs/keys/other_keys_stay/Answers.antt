use Rattle.saved_laws.proofs.others.Stay.{other_keys_stay}
use Rattle.saved_laws.proofs.keys.other_keys_stay.Goals as goal

pub returns : goal.returns
returns c = other_keys_stay
