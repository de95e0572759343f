use Rattle.sysfile_core.proofs.WriteLemmas.{open_is_whole}
use Rattle.sysfile_core.proofs.laws.an_open_slot_is_whole.Goals as goal

pub returns : goal.returns
returns c = open_is_whole
