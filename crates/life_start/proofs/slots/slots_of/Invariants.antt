use Rattle.std.proofs.Common.{◌≡◌, List, map, length}
use Rattle.std.specs.Prelude.{Some}
use Rattle.host_io.specs.Call.{Call}
use Rattle.sys_restart.specs.Answers.{AreSteady}
use Rattle.sys_restart.specs.Files.{disks_of}
use Rattle.life_start.specs.Begun.{AreSlotsOf}
use Rattle.life_start.proofs.slots.slots_of.Given as goal

-- the slots so far are those of the disks so far
abbrev pub invariant-loop-index : goal.invariant-loop-index
invariant-loop-index g l = record {
  told : map g.D.Disk.told l.disks ≡ map g.D.Disk.told l.fn.disks;
  steady : AreSteady (map g.D.Disk.faults l.fn.disks) (map g.D.Disk.faults l.disks);
  count : length l.slots.items ≡ l.index;
  read : (records : List (List Call)) → map g.D.Disk.told l.fn.disks ≡ map Some records
      → AreSlotsOf l.generation (disks_of records) l.slots.items;
}
