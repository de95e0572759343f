use Rattle.std.proofs.Common.{◌≡◌, ◌++◌, drop}
use Rattle.life_start.specs.Begun.{rows_of}
use Rattle.life_start.proofs.begin.rows_of.Given as goal

-- the rows so far and the groups that are left lead to all rows
abbrev pub invariant-loop-group : goal.invariant-loop-group
invariant-loop-group l =
    l.rows.items ++ rows_of (drop l.group-index l.restored.groups) ≡ rows_of l.restored.groups
