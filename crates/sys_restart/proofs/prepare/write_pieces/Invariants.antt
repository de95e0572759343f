use Rattle.std.proofs.Common.{◌≡◌, ◌≤◌, ◌-◌, List, length}
use Rattle.std.specs.Prelude.{Some}
use Rattle.host_io.specs.Call.{Call}
use Rattle.sys_restart.proofs.PieceLemmas.{IsWriting}
use Rattle.sys_restart.proofs.prepare.write_pieces.Given as goal

-- the bytes below a place were written
abbrev pub invariant-pieces : goal.invariant-pieces
invariant-pieces g l = record {
  within : l.at ≤ length l.bytes;
  steady : g.D.Disk.faults l.fn.disk ≤ g.D.Disk.faults l.disk;
  written : (calls : List Call) → g.D.Disk.told l.fn.disk ≡ Some calls
      → IsWriting l.file l.at l.bytes calls (g.D.Disk.told l.disk);
}

abbrev pub decreases-pieces : goal.decreases-pieces
decreases-pieces g l = length l.bytes - l.at
