use Rattle.sysfile_core.proofs.ReadLemmas.{control_read}
use Rattle.sysfile_core.proofs.laws.control_slots_are_read.Goals as goal

pub returns : goal.returns
returns c = control_read
