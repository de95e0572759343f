use Rattle.std.proofs.Common.{◌≡◌, ◌++◌, map}
use Rattle.std.specs.List.{All, AllByRecursion}
use Rattle.std.specs.Map.Iter.{deref_pair}
use Rattle.row_map.specs.Stored.{IsStored, IsValue, rows_at}
use Rattle.row_map.proofs.rows.lend.Given as goal

-- the rows so far and those that are left are all, and at each place that is left a value stands
abbrev pub invariant-loop-key : goal.invariant-loop-key
invariant-loop-key l = record {
  rows : map deref_pair l.rows.items ++ rows_at l.bytes l.key-iterator ≡ rows_at l.bytes l.initial.key-iterator;
  left : AllByRecursion (λ e. IsStored l.bytes e.1) l.key-iterator;
  values : All (λ row. IsValue row.1.now) l.rows.items;
}
