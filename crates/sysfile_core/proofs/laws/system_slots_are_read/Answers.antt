use Rattle.sysfile_core.proofs.ReadLemmas.{system_read}
use Rattle.sysfile_core.proofs.laws.system_slots_are_read.Goals as goal

pub returns : goal.returns
returns c = system_read
