use Rattle.key_laws.proofs.PrimaryValue.{aborts_value, commits_value, completions_value, decisions_right}
use Rattle.key_laws.proofs.PrimaryValue.{operations_value}
use Rattle.key_laws.proofs.row_laws.primary_keeps_value.Goals as goal

pub returns-clause-performed : goal.returns-clause-performed
returns-clause-performed c = operations_value

pub returns-clause-committed : goal.returns-clause-committed
returns-clause-committed c = commits_value

pub returns-clause-aborted : goal.returns-clause-aborted
returns-clause-aborted c = aborts_value

pub returns-clause-completed : goal.returns-clause-completed
returns-clause-completed c = completions_value

pub returns-clause-decided : goal.returns-clause-decided
returns-clause-decided c = decisions_right
