use Rattle.std.proofs.Common.{◌≡◌, ◌≤◌, List}
use Rattle.std.specs.Prelude.{Some}
use Rattle.host_io.specs.Call.{Call}
use Rattle.sys_restart.proofs.SettleLemmas.{SyncedTo}
use Rattle.sys_restart.proofs.settle.settle_disk.Given as goal

-- the first files were synced
abbrev pub invariant-loop-file : goal.invariant-loop-file
invariant-loop-file g l = record {
  steady : g.D.Disk.faults l.fn.disk ≤ g.D.Disk.faults l.disk;
  synced : (calls : List Call) → g.D.Disk.told l.fn.disk ≡ Some calls
      → SyncedTo l.file calls (g.D.Disk.told l.disk);
}
