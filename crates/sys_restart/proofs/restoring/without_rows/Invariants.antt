use Rattle.std.proofs.Common.{◌≡◌, replicate}
use Rattle.std.specs.FinMap as rows
use Rattle.sys_restart.proofs.restoring.without_rows.Given as goal

-- so many were made
abbrev pub invariant-loop : goal.invariant-loop
invariant-loop l = l.tables ≡ replicate l.counter rows.empty
