use Rattle.std.proofs.Common.{◌≡◌, ◌++◌, take}
use Rattle.std.specs.Prelude.{flat_map}
use Rattle.trace_write.proofs.write.lists.put_list.Given as goal

-- the items before this one are written
abbrev pub invariant-items : goal.invariant-items
invariant-items g l = l.out ≡ l.initial.out ++ flat_map g.T.Written.spelled (take l.item-index l.items)
