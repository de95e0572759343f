use Rattle.row_locks.proofs.TableLawLemmas.{empty_orderly, request_orderly, release_orderly, unwait_orderly}
use Rattle.row_locks.proofs.TableLawLemmas.{age_round_orderly}
use Rattle.row_locks.proofs.UnqueuedLemmas.{unwait_all_orderly}
use Rattle.row_locks.proofs.laws.locks_stay_orderly.Goals as goal

pub returns-clause-new : goal.returns-clause-new
returns-clause-new c = empty_orderly

pub returns-clause-request : goal.returns-clause-request
returns-clause-request c = request_orderly

pub returns-clause-release : goal.returns-clause-release
returns-clause-release c = release_orderly

pub returns-clause-unwait : goal.returns-clause-unwait
returns-clause-unwait c = unwait_orderly

pub returns-clause-unwait_all : goal.returns-clause-unwait_all
returns-clause-unwait_all c = unwait_all_orderly

pub returns-clause-age_round : goal.returns-clause-age_round
returns-clause-age_round c = age_round_orderly
