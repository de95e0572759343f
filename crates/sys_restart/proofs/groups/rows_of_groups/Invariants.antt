use Rattle.std.proofs.Common.{◌≡◌, ◌-◌, List, map}
use Rattle.std.specs.Prelude.{Ok, Some}
use Rattle.frag_map.specs.Shape.{groups}
use Rattle.host_io.specs.Call.{Call}
use Rattle.sys_restart.specs.Answers.{AreSteady}
use Rattle.sys_restart.specs.Files.{disks_of}
use Rattle.sys_restart.specs.Groups.{rows_from, rows_of_groups}
use Rattle.sys_restart.proofs.groups.rows_of_groups.Given as goal

-- the rows so far and the groups that are left lead to what all do
abbrev pub invariant-loop-group : goal.invariant-loop-group
invariant-loop-group g l = record {
  told : map g.D.Disk.told l.disks ≡ map g.D.Disk.told l.fn.disks;
  steady : AreSteady (map g.D.Disk.faults l.fn.disks) (map g.D.Disk.faults l.disks);
  read : (records : List (List Call)) → map g.D.Disk.told l.fn.disks ≡ map Some records
      → rows_from l.shape (disks_of records) l.system l.group (groups l.shape - l.group) (Ok l.rows)
      ≡ rows_of_groups l.shape (disks_of records) l.system;
}
