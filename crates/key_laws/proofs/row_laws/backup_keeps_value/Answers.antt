use Rattle.key_laws.proofs.BackupMoves.{aborts_move, commits_move, completions_move, decisions_move, grants_move}
use Rattle.key_laws.proofs.BackupMoves.{images_move, unkept_decisions_move}
use Rattle.key_laws.proofs.row_laws.backup_keeps_value.Goals as goal

pub returns-clause-granted : goal.returns-clause-granted
returns-clause-granted c = grants_move

pub returns-clause-prepared : goal.returns-clause-prepared
returns-clause-prepared c = images_move

pub returns-clause-committed : goal.returns-clause-committed
returns-clause-committed c = commits_move

pub returns-clause-completed : goal.returns-clause-completed
returns-clause-completed c = completions_move

pub returns-clause-aborted : goal.returns-clause-aborted
returns-clause-aborted c = aborts_move

pub returns-clause-decided : goal.returns-clause-decided
returns-clause-decided c = decisions_move

pub returns-clause-unkept : goal.returns-clause-unkept
returns-clause-unkept c = unkept_decisions_move
