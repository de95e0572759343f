use Rattle.sysfile_core.proofs.WriteLemmas.{other_is_kept}
use Rattle.sysfile_core.proofs.laws.the_other_slot_is_kept.Goals as goal

pub returns : goal.returns
returns c = other_is_kept
