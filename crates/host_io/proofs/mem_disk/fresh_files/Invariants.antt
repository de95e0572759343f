use Rattle.std.proofs.Common.{◌≡◌, ◌≤◌, replicate}
use Rattle.std.specs.Vec.{vec_capacity}
use Rattle.host_io.specs.declared.limits.TheConstants.{FILES}
use Rattle.host_io.specs.DiskState.{fresh_file}
use Rattle.host_io.proofs.mem_disk.fresh_files.Given as goal

-- so many files, and room for the others
abbrev pub invariant-loop : goal.invariant-loop
invariant-loop l =
    record {
      room : FILES ≤ vec_capacity l.files;
      fresh : l.files.items ≡ replicate l.counter fresh_file;
    }
