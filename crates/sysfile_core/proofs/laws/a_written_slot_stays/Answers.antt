use Rattle.sysfile_core.proofs.WriteLemmas.{written_stays}
use Rattle.sysfile_core.proofs.laws.a_written_slot_stays.Goals as goal

pub returns : goal.returns
returns c = written_stays
