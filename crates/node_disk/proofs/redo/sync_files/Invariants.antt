use Rattle.std.proofs.Common.{◌≡◌, ◌≤◌, ◌-◌, List}
use Rattle.std.specs.Prelude.{Some}
use Rattle.host_io.specs.Call.{Call}
use Rattle.node_disk.proofs.RedoLemmas.{IsSyncing}
use Rattle.node_disk.proofs.redo.sync_files.Given as goal

-- the files up to a position were synced
abbrev pub invariant-files : goal.invariant-files
invariant-files g l = record {
  within : l.at ≤ l.end;
  steady : g.D.Disk.faults l.fn.disk ≤ g.D.Disk.faults l.disk;
  synced : (calls : List Call) → g.D.Disk.told l.fn.disk ≡ Some calls
      → IsSyncing l.parity l.from l.end l.at calls (g.D.Disk.told l.disk);
}

abbrev pub decreases-files : goal.decreases-files
decreases-files g l = l.end - l.at
