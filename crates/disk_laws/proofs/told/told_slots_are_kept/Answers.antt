use Rattle.disk_laws.proofs.told_slots.Kept.{told_slots_kept}
use Rattle.disk_laws.proofs.told.told_slots_are_kept.Goals as goal

pub returns : goal.returns
returns c = told_slots_kept
