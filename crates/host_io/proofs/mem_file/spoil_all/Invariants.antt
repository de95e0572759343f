use Rattle.std.proofs.Common.{◌≡◌, ◌≤◌, drop, length}
use Rattle.host_io.specs.Outcome.{spoiled}
use Rattle.host_io.proofs.mem_file.spoil_all.Given as goal

-- what is left leads to the same as all did
abbrev pub invariant-loop-range : goal.invariant-loop-range
invariant-loop-range l =
    record {
      within : l.used ≤ length l.picks;
      size : length l.bytes ≡ length l.initial.bytes;
      leads
          : spoiled (drop l.range-index l.dirty) l.bytes (drop l.used l.picks)
          ≡ spoiled l.dirty l.initial.bytes (drop l.initial.used l.picks);
    }
