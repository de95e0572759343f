use Rattle.answer_laws.proofs.Lives.{each_lives}
use Rattle.answer_laws.proofs.laws.each_has_a_coordinator.Goals as goal

pub returns : goal.returns
returns c = each_lives
