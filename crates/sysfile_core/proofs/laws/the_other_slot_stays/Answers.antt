use Rattle.sysfile_core.proofs.WriteLemmas.{other_stays}
use Rattle.sysfile_core.proofs.laws.the_other_slot_stays.Goals as goal

pub returns : goal.returns
returns c = other_stays
