use Rattle.std.proofs.Common.{◌≡◌, drop}
use Rattle.api_block.specs.Gathered.{gathered}
use Rattle.api_block.proofs.gathered.insert_all.Given as goal

-- those so far and those that are left are all
abbrev pub invariant-loop-row : goal.invariant-loop-row
invariant-loop-row l = gathered l.map.entries (drop l.row-index l.rows) ≡ gathered l.initial.map.entries l.rows
