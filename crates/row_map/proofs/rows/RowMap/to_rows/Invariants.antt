use Rattle.std.proofs.Common.{◌≡◌, ◌++◌, drop, map}
use Rattle.std.specs.Map.Iter.{deref_pair}
use Rattle.row_map.proofs.rows.RowMap.to_rows.Given as goal

-- the rows so far and those that are left are all
abbrev pub invariant-loop-key : goal.invariant-loop-key
invariant-loop-key l = l.rows.items ++ map deref_pair (drop l.key-index l.key-items) ≡ map deref_pair l.key-items
