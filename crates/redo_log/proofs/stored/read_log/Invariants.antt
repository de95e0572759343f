use Rattle.std.proofs.Common.{◌≡◌, ◌≤◌, ◌+◌, ◌-◌, List, Some, length}
use Rattle.host_io.specs.Call.{Call}
use Rattle.redo_log.specs.Stored.{EachIsStored, files_of}
use Rattle.redo_log.proofs.stored.read_log.Given as goal

-- the bytes below a position were read
abbrev pub invariant-pieces : goal.invariant-pieces
invariant-pieces g l = record {
  unrecorded : g.D.Disk.told l.disk ≡ g.D.Disk.told l.fn.disk;
  steady : g.D.Disk.faults l.fn.disk ≤ g.D.Disk.faults l.disk;
  here : l.from + length l.bytes.items ≡ l.at;
  within : l.at ≤ l.to;
  each : (calls : List Call) → g.D.Disk.told l.fn.disk ≡ Some calls
      → EachIsStored (files_of calls) l.parity l.from l.bytes.items;
}

abbrev pub decreases-pieces : goal.decreases-pieces
decreases-pieces g l = l.to - l.at
