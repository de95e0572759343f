use Rattle.key_laws.proofs.PrimaryGood.{aborts_keep, commits_keep, completions_keep, grants_keep, operations_keep}
use Rattle.key_laws.proofs.row_laws.primary_keeps_answers_right.Goals as goal

pub returns-clause-granted : goal.returns-clause-granted
returns-clause-granted c = grants_keep

pub returns-clause-performed : goal.returns-clause-performed
returns-clause-performed c = operations_keep

pub returns-clause-committed : goal.returns-clause-committed
returns-clause-committed c = commits_keep

pub returns-clause-aborted : goal.returns-clause-aborted
returns-clause-aborted c = aborts_keep

pub returns-clause-completed : goal.returns-clause-completed
returns-clause-completed c = completions_keep
