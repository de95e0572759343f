-- Whose disk it is: a slot of the control file tells it, behind those of the rows.
use Rattle.std.specs.Prelude.{ℕ, ◌==◌, Bool, true, false, List, [], ◌∷◌, slice_index, Option, None, Some}
use Rattle.host_io.specs.Call.{Call, Synced}
use Rattle.sysfile_core.specs.declared.owner.TheConstants.{OWNER, OWNER_BYTES}
use Rattle.sysfile_core.specs.declared.place.TheConstants.{CONTROL_FILE}
use Rattle.sysfile_core.specs.Places.{place_of, slot_at}
use Rattle.sysfile_core.specs.Writing.{slot_calls}

-- the node that such a slot names
abbrev pub named_by : Option (List ℕ) → Option ℕ
named_by None = None
named_by (Some slot) = Some (slice_index slot 1)

-- the node whose own a control file of these bytes is, if it tells
abbrev pub owner_of : List ℕ → Option ℕ
owner_of bytes = named_by (slot_at (place_of OWNER) OWNER_BYTES bytes)

abbrev pub is_of : ℕ → Option ℕ → Bool
is_of node None = false
is_of node (Some owner) = owner == node

abbrev pub sync_if : Bool → List Call → List Call
sync_if true calls = Synced CONTROL_FILE ∷ []
sync_if false calls = calls

-- The calls by which a control file of these bytes is made a node's own. Where it is, a sync alone: it stands for the
-- read that finds this out, so that a read that fails is a call that fails.
abbrev pub owner_calls : ℕ → List ℕ → List Call
owner_calls node bytes =
    sync_if (is_of node (owner_of bytes)) (slot_calls bytes CONTROL_FILE (place_of OWNER) (node ∷ []))
