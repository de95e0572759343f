use Rattle.std.proofs.Common.{◌≡◌, ◌+◌, ◌-◌, List, map}
use Rattle.std.specs.Prelude.{None, Some}
use Rattle.host_io.specs.Call.{Call}
use Rattle.sys_restart.specs.Answers.{AreSteady}
use Rattle.sys_restart.specs.Files.{disks_of}
use Rattle.sys_restart.specs.Groups.{rows_among}
use Rattle.sys_restart.proofs.groups.rows_among.Given as goal

-- what was found so far and the nodes that are left lead to what all do
abbrev pub invariant-loop-more : goal.invariant-loop-more
invariant-loop-more g l = record {
  told : map g.D.Disk.told l.disks ≡ map g.D.Disk.told l.fn.disks;
  steady : AreSteady (map g.D.Disk.faults l.fn.disks) (map g.D.Disk.faults l.disks);
  read : (records : List (List Call)) → map g.D.Disk.told l.fn.disks ≡ map Some records
      → rows_among l.shape (disks_of records) l.system (l.first + l.more) (l.shape.replicas - l.more) l.found
      ≡ rows_among l.shape (disks_of records) l.system l.first l.shape.replicas None;
}
