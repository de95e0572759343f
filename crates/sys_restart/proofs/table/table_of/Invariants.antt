use Rattle.std.proofs.Common.{◌≡◌, ◌-◌, drop, length}
use Rattle.std.specs.FinMap as finmap
use Rattle.sys_restart.proofs.table.table_of.Given as goal

-- the last rows are in
abbrev pub invariant-loop-done : goal.invariant-loop-done
invariant-loop-done l = l.table ≡ finmap.from_entries (drop (length l.rows - l.done) l.rows)
