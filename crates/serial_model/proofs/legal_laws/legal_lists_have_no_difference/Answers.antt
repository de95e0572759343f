use Rattle.serial_model.proofs.DifferenceLemmas.{no_difference, one_difference}
use Rattle.serial_model.proofs.legal_laws.legal_lists_have_no_difference.Goals as goal

pub returns-clause-legal : goal.returns-clause-legal
returns-clause-legal c = no_difference

pub returns-clause-one : goal.returns-clause-one
returns-clause-one c = one_difference
