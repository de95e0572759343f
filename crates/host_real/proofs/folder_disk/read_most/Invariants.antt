use Rattle.std.proofs.Common.{◌≤◌, length}
use Rattle.host_real.proofs.folder_disk.read_most.Given as goal

abbrev pub invariant-loop : goal.invariant-loop
invariant-loop g l = l.count ≤ length l.buf
