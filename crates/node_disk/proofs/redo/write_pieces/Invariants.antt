use Rattle.std.proofs.Common.{◌≡◌, ◌≤◌, ◌-◌, List, length}
use Rattle.std.specs.Prelude.{Some}
use Rattle.host_io.specs.Call.{Call}
use Rattle.node_disk.proofs.RedoLemmas.{IsWriting}
use Rattle.node_disk.proofs.redo.write_pieces.Given as goal

-- so many bytes were written
abbrev pub invariant-pieces : goal.invariant-pieces
invariant-pieces g l = record {
  within : l.done ≤ length l.bytes;
  steady : g.D.Disk.faults l.fn.disk ≤ g.D.Disk.faults l.disk;
  written : (calls : List Call) → g.D.Disk.told l.fn.disk ≡ Some calls
      → IsWriting l.parity l.from l.bytes l.done calls (g.D.Disk.told l.disk);
}

abbrev pub decreases-pieces : goal.decreases-pieces
decreases-pieces g l = length l.bytes - l.done
