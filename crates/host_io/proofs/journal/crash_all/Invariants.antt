use Rattle.std.proofs.Common.{◌≡◌, ◌≤◌, ◌++◌, drop, length, map, take}
use Rattle.host_io.specs.DiskState.{settled}
use Rattle.host_io.specs.Outcome.{crash}
use Rattle.host_io.proofs.journal.crash_all.Given as goal

-- what is left leads to the same as all did, behind the files that have crashed
abbrev pub invariant-loop-index : goal.invariant-loop-index
invariant-loop-index l =
    record {
      within : l.used ≤ length l.picks;
      files
          : take l.index l.files ++ map settled (crash (drop l.index l.files) (drop l.used l.picks)).files
          ≡ map settled (crash l.initial.files (drop l.initial.used l.picks)).files;
      left
          : (crash (drop l.index l.files) (drop l.used l.picks)).picks
          ≡ (crash l.initial.files (drop l.initial.used l.picks)).picks;
    }
