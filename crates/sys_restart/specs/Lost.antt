-- Disks whose system slots are all lost, though rows were saved on them.
use Rattle.std.specs.Prelude.{ℕ, zero, suc, ◌+◌, ◌||◌, Bool, false, nat_lt, List, Option, None, Some, Result, Ok, Err, if◌then◌else◌}
use Rattle.sig_core.specs.declared.fault.RestartFault.{RestartFault}
use Rattle.sig_core.specs.declared.slots.ControlSlot.{ControlSlot}
use Rattle.sysfile_core.specs.declared.place.TheConstants.{CONTROL_FILE, SYSTEM_FILE}
use Rattle.sysfile_core.specs.Reading.{control_at}
use Rattle.sys_restart.specs.Files.{Disks, Files}
use Rattle.sys_restart.specs.Lack.{lacking}
use Rattle.sys_restart.specs.Places.{usable}

-- Rows were saved under a control slot. Before the first life of a cluster is named none were.
abbrev pub was_saved : Option ControlSlot → Bool
was_saved None = false
was_saved (Some slot) = nat_lt 0 slot.saved

-- under one of the two of a control file of these bytes
abbrev pub has_saved : List ℕ → Bool
has_saved bytes = was_saved (usable (control_at 0 bytes)) || was_saved (usable (control_at 1 bytes))

-- a node's disk that has no system slot has lost none, or what is wrong with it
abbrev pub none_lost_on : ℕ → Files → Result (Unit {0}) RestartFault
none_lost_on node files = if has_saved (files CONTROL_FILE) then Err (lacking node SYSTEM_FILE files) else Ok tt

-- what is wrong with one node, or else with those behind it
abbrev pub and_behind : Result (Unit {0}) RestartFault → Result (Unit {0}) RestartFault
    → Result (Unit {0}) RestartFault
and_behind (Err fault) behind = Err fault
and_behind (Ok done) behind = behind

-- the disks of so many nodes, none of which has a system slot, have lost none, or what is wrong with the first
unfoldable pub none_lost : Disks → ℕ → ℕ → Result (Unit {0}) RestartFault
none_lost disks node zero = Ok tt
none_lost disks node (suc more) = and_behind (none_lost_on node (disks node)) (none_lost disks (node + 1) more)
