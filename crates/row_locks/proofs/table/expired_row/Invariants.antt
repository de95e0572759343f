use Rattle.std.proofs.Common.{◌≡◌}
use Rattle.row_locks.specs.Rounds.{expired_in}
use Rattle.row_locks.proofs.table.expired_row.Given as goal

-- what is left tells the answer
abbrev pub invariant-loop-key : goal.invariant-loop-key
invariant-loop-key l = expired_in l.key-iterator ≡ expired_in l.rows.entries
