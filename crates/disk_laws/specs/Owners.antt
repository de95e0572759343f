-- Whose disk it is stands in its control file, whatever a crash leaves of that.
use Rattle.std.specs.Prelude.{◌≡◌, ◌≤◌, ℕ, ◌+◌, ◌-◌, List, length, get_or, None, Some}
use Rattle.host_io.specs.Call.{Call}
use Rattle.host_io.specs.DiskState.{state_of}
use Rattle.host_io.specs.Image.{IsImage}
use Rattle.run_theory.specs.Lists.{IsIn}
use Rattle.sig_core.specs.declared.member.Member.{Member}
use Rattle.sig_core.specs.declared.slots.SystemSlot.{SystemSlot}
use Rattle.sig_core.specs.Table.{Rows}
use Rattle.sysfile_core.specs.declared.owner.TheConstants.{OWNER, OWNER_BYTES}
use Rattle.sysfile_core.specs.declared.place.TheConstants.{CONTROL_FILE}
use Rattle.sysfile_core.specs.Owner.{owner_of}
use Rattle.sysfile_core.specs.Places.{IsKept, place_of}
use Rattle.world_core.specs.Start.{Start, made}
use Rattle.world_views.specs.Driven.{IsSound}
use Rattle.world_views.specs.World.{Whole}
use Rattle.disk_world.specs.Disks.{Disks, HasGoneOn}
use Rattle.disk_laws.specs.OnDisk.{KeepsUp}

-- the control file names the node, and no crash changes that
abbrev pub IsNamed : ℕ → List Call → Type 0
IsNamed node calls =
    IsKept (state_of calls CONTROL_FILE) (place_of OWNER) (place_of OWNER + OWNER_BYTES)
    × (owner_of (state_of calls CONTROL_FILE).bytes ≡ Some node)

-- so it is of the disk of a member's node
pub record KeepsOwner (node : ℕ) (disks : Disks) : Type 0 where
  pub calls : List Call
  pub told : get_or disks.told (node - 1) None ≡ Some calls
  pub named : IsNamed node calls

-- what a crash leaves of such a file names the node
abbrev pub OwnersAreFound : Type 0
OwnersAreFound =
    (node : ℕ) (calls : List Call) (image : List ℕ) → IsNamed node calls → IsImage (state_of calls CONTROL_FILE) image
    → owner_of image ≡ Some node

-- a host goes on, and what its node's disk writes leaves that as it is
abbrev pub OwnersAreKept : Type 0
OwnersAreKept =
    (start : Start) (member : Member) (before : Rows) (first : SystemSlot) (w t : Whole) (old new : Disks)
    (counts : List ℕ) → IsSound start w → IsIn member (made start) → start.shape.nodes ≤ length old.told
    → start.shape.nodes ≤ length old.slots → HasGoneOn w old new counts t → KeepsUp start member before first w old
    → KeepsOwner member.node old → KeepsOwner member.node new
