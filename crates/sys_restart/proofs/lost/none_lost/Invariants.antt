use Rattle.std.proofs.Common.{◌≡◌, ◌+◌, ◌-◌, List, map, length}
use Rattle.std.specs.Prelude.{Some}
use Rattle.host_io.specs.Call.{Call}
use Rattle.sys_restart.specs.Answers.{AreSteady}
use Rattle.sys_restart.specs.Files.{disks_of}
use Rattle.sys_restart.specs.Lost.{none_lost}
use Rattle.sys_restart.proofs.lost.none_lost.Given as goal

-- the nodes that are left lead to what all do
abbrev pub invariant-loop-index : goal.invariant-loop-index
invariant-loop-index g l = record {
  told : map g.D.Disk.told l.disks ≡ map g.D.Disk.told l.fn.disks;
  steady : AreSteady (map g.D.Disk.faults l.fn.disks) (map g.D.Disk.faults l.disks);
  read : (records : List (List Call)) → map g.D.Disk.told l.fn.disks ≡ map Some records
      → none_lost (disks_of records) (l.index + 1) (length l.fn.disks - l.index)
      ≡ none_lost (disks_of records) 1 (length l.fn.disks);
}
