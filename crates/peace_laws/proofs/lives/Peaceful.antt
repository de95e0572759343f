-- A life in peace: its plain parts are logs of the plain machine, and each closing is answered.
use Rattle.level_laws.proofs.Level.{all_level}
use Rattle.peace_laws.specs.Laws.{ClosingsAreAnswered, PeacefulLivesArePlain}
use Rattle.peace_laws.proofs.lives.ClosingGoes.{closing_goes_on}
use Rattle.peace_laws.proofs.lives.Served as served

pub lives_plain : PeacefulLivesArePlain
lives_plain = served.lives_plain all_level (closing_goes_on all_level)

pub closings_answered : ClosingsAreAnswered
closings_answered = served.closings_answered all_level (closing_goes_on all_level)
