use Rattle.std.proofs.Common.{◌≡◌, List, length, map}
use Rattle.std.specs.Prelude.{Some}
use Rattle.host_io.specs.Call.{Call}
use Rattle.sys_restart.specs.Answers.{AreSteady}
use Rattle.sys_restart.specs.LifeCalls.{record_of}
use Rattle.sys_restart.specs.Settle.{sync_calls}
use Rattle.sys_restart.proofs.TurnLemmas.{Turns}
use Rattle.sys_restart.proofs.settle.settle_disks.Given as goal

-- the disks of the first nodes have had their calls
abbrev pub invariant-loop-index : goal.invariant-loop-index
invariant-loop-index g l = record {
  steady : AreSteady (map g.D.Disk.faults l.fn.disks) (map g.D.Disk.faults l.disks);
  turns : (records : List (List Call)) → map g.D.Disk.told l.fn.disks ≡ map Some records
      → Turns (λ node. sync_calls) (record_of records) (map g.D.Disk.told l.disks) (length records)
      l.index;
}
