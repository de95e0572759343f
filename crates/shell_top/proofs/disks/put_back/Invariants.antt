use Rattle.std.proofs.Common.{◌≡◌, ◌++◌}
use Rattle.std.specs.Vec.{vec_capacity}
use Rattle.shell_top.proofs.disks.put_back.Given as goal

-- those so far are behind what was there, and no room was made or lost
abbrev pub invariant-loop-disk : goal.invariant-loop-disk
invariant-loop-disk g l = record {
  items : l.all.items ≡ l.yielded;
  room : vec_capacity l.all ≡ vec_capacity l.initial.all;
}

abbrev pub invariant-loop-disk-2 : goal.invariant-loop-disk-2
invariant-loop-disk-2 g l = record {
  items : l.all.items ≡ l.initial.all.items ++ l.yielded;
  room : vec_capacity l.all ≡ vec_capacity l.initial.all;
}
