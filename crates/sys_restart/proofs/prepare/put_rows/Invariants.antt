use Rattle.std.proofs.Common.{◌≡◌, ◌++◌, drop, map}
use Rattle.std.specs.List.{flat_map}
use Rattle.std.specs.Map.Iter.{deref_pair}
use Rattle.sig_core.specs.Checkpoint.{row_bytes}
use Rattle.sys_restart.specs.Calls.{row_at}
use Rattle.sys_restart.proofs.prepare.put_rows.Given as goal

-- the bytes so far and the rows that are left lead to what all do
abbrev pub invariant-loop-key : goal.invariant-loop-key
invariant-loop-key l =
    l.bytes.items ++ flat_map row_bytes (map (row_at l.epoch) (map deref_pair (drop l.key-index l.rows)))
    ≡ l.initial.bytes.items ++ flat_map row_bytes (map (row_at l.epoch) (map deref_pair l.rows))
