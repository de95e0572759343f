-- The system slots on a node's disk are all of the cluster's shape, at either place.
use Rattle.std.specs.Prelude.{◌≡◌, ◌≤◌, ℕ, ◌-◌, true, List, length, get_or, None, Some, Ok}
use Rattle.host_io.specs.Call.{Call}
use Rattle.host_io.specs.DiskState.{state_of}
use Rattle.host_io.specs.Image.{IsImage}
use Rattle.run_theory.specs.Lists.{IsIn}
use Rattle.sig_core.specs.declared.member.Member.{Member}
use Rattle.sig_core.specs.declared.slots.SystemSlot.{SystemSlot}
use Rattle.sig_core.specs.declared.view.Shape.{Shape}
use Rattle.sig_core.specs.Table.{Rows}
use Rattle.life_start.specs.Shapes.{AreOfShape}
use Rattle.sys_restart.specs.Files.{Files}
use Rattle.sys_restart.specs.Latest.{latest_on, same_shape}
use Rattle.sysfile_core.specs.declared.place.TheConstants.{SYSTEM_FILE}
use Rattle.sysfile_core.specs.Reading.{system_of_file}
use Rattle.world_core.specs.Start.{Start, made}
use Rattle.world_views.specs.Driven.{IsSound}
use Rattle.world_views.specs.World.{Whole}
use Rattle.disk_world.specs.Disks.{Disks, HasGoneOn}
use Rattle.disk_laws.specs.OnDisk.{KeepsUp}

-- whatever a crash leaves of the system file after these calls, its slots are
abbrev pub LeavesShape : Shape → List Call → Type 0
LeavesShape shape calls = (bytes : List ℕ) → IsImage (state_of calls SYSTEM_FILE) bytes → AreOfShape shape bytes

-- so it is of the disk of a member's node
pub record KeepsShape (shape : Shape) (node : ℕ) (disks : Disks) : Type 0 where
  pub calls : List Call
  pub told : get_or disks.told (node - 1) None ≡ Some calls
  pub leaves : LeavesShape shape calls

-- where they are, the latest of the two is the one in use
abbrev pub ShapesAreRead : Type 0
ShapesAreRead =
    (shape : Shape) (node : ℕ) (image : Files) (slot : SystemSlot) → AreOfShape shape (image SYSTEM_FILE)
    → system_of_file (image SYSTEM_FILE) ≡ Ok (Some slot) → latest_on shape node image ≡ Ok (Some slot)

-- a host goes on, and what its node's disk writes of the system slot is of the cluster's shape
abbrev pub ShapesAreKept : Type 0
ShapesAreKept =
    (start : Start) (member : Member) (before : Rows) (first : SystemSlot) (w t : Whole) (old new : Disks)
    (counts : List ℕ) → IsSound start w → IsIn member (made start) → start.shape.nodes ≤ length old.told
    → start.shape.nodes ≤ length old.slots → HasGoneOn w old new counts t
    → same_shape first.shape start.shape ≡ true → KeepsUp start member before first w old
    → KeepsShape start.shape member.node old → KeepsShape start.shape member.node new
