-- Rows that are read under a control file of a node's own.
use Rattle.std.specs.Prelude.{ℕ, ◌+◌, ◌==◌, Bool, true, Option, None, Some, Result, Err, if◌then◌else◌}
use Rattle.sig_core.specs.declared.fault.RestartFault.{RestartFault}
use Rattle.sig_core.specs.declared.fault.RestartFault.TheVariants.{Damaged}
use Rattle.sig_core.specs.Table.{Rows}
use Rattle.sysfile_core.specs.declared.owner.TheConstants.{OWNER}
use Rattle.sysfile_core.specs.declared.place.TheConstants.{CONTROL_FILE}
use Rattle.sysfile_core.specs.Places.{place_of}

-- the control file of a node's disk names it, or none
abbrev pub is_owned : ℕ → Option ℕ → Bool
is_owned node None = true
is_owned node (Some owner) = owner == node

-- rows, unless it names another: that is damage at the byte that does
abbrev pub if_owned : ℕ → Option ℕ → Result Rows RestartFault → Result Rows RestartFault
if_owned node None rows = rows
if_owned node (Some owner) rows =
    if owner == node then rows else Err (Damaged node CONTROL_FILE (place_of OWNER + 1) owner)
