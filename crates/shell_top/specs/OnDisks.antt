-- A life that goes on, with its disks.
use Rattle.std.specs.Prelude.{List, map, Option, None, Some}
use Rattle.disk_world.specs.declared.disk_world.DiskWorld.{DiskWorld}
use Rattle.disk_world.specs.Disks.{Disks, disks_with}
use Rattle.host_io.specs.Call.{Call}
use Rattle.restart_laws.specs.Lived.{IsLived}
use Rattle.shell_top.specs.declared.ended.Ending.{Ending}
use Rattle.shell_top.specs.declared.ended.Ending.TheVariants.{NoMemory}
use Rattle.sys_restart.specs.declared.restored.Restored.{Restored}
use Rattle.world_core.specs.Start.{Start}
use Rattle.world_views.specs.World.{Whole}
use Rattle.world_views.specs.WorldOf.{whole_of}

-- what the disks of a world tell, and their slots in use
abbrev pub disks_told : {D : Type 0} → (D → Option (List Call)) → DiskWorld D → Disks
disks_told told w = disks_with (map told w.disks.items) w.slots.items

-- a life that has come to the first world and its disks comes to the second one and its own
abbrev pub ComesTo : Start → (w : Whole) (old : Disks) (t : Whole) (new : Disks) → Type 0
ComesTo start w old t new = (r : Restored) → IsLived r w old start → IsLived r t new start

-- so it is from a world on disks to another
abbrev pub LivesOn : {D : Type 0} → Start → (D → Option (List Call)) → (w t : DiskWorld D) → Type 0
LivesOn start told w t = ComesTo start (whole_of w.world) (disks_told told w) (whole_of t.world) (disks_told told t)

-- something holds, unless the session ends for want of memory
abbrev pub UnlessWanting : Option Ending → Type 0 → Type 0
UnlessWanting None Holds = Holds
UnlessWanting (Some NoMemory) Holds = Unit {0}
UnlessWanting (Some ending) Holds = Holds
