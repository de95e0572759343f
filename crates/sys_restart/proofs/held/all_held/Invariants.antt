use Rattle.std.proofs.Common.{◌≡◌, true, take}
use Rattle.std.specs.List.{list_all}
use Rattle.std.specs.Map.Iter.{deref_pair}
use Rattle.sys_restart.specs.Held.{is_held}
use Rattle.sys_restart.proofs.held.all_held.Given as goal

-- those so far are held
abbrev pub invariant-loop-key : goal.invariant-loop-key
invariant-loop-key l = list_all (λ row. is_held l.shape l.node (deref_pair row)) (take l.key-index l.rows) ≡ true
