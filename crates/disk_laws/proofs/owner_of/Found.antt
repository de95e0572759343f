-- What names the node is found in whatever a crash leaves, and a file of which nothing is dirty is such a one.
use Rattle.std.proofs.Common.{◌≡◌, ◌∙◌, ◌⊎◌, ◌+◌, ◌≤◌, ℕ, List, length, refl, ap, sym, subst, arith, inl, inr}
use Rattle.std.specs.Prelude.{None, Some}
use Rattle.host_io.specs.Call.{Call}
use Rattle.host_io.specs.DiskState.{FileState, settled, state_of}
use Rattle.redo_log.specs.Stored.{files_of}
use Rattle.sysfile_core.specs.declared.owner.TheConstants.{OWNER, OWNER_BYTES}
use Rattle.sysfile_core.specs.declared.place.TheConstants.{CONTROL_FILE}
use Rattle.sysfile_core.specs.Owner.{named_by, owner_of}
use Rattle.sysfile_core.specs.Places.{IsKept, place_of, slot_at}
use Rattle.sysfile_core.proofs.SlotLemmas.{IsOpenAt, open_or_none, slot_is_same}
use Rattle.disk_laws.specs.Owners.{IsNamed, OwnersAreFound}

pub owners_found : OwnersAreFound
owners_found node calls image named left =
    let kept = named.0 in
    ap named_by
    (slot_is_same (place_of OWNER) OWNER_BYTES image (files_of calls CONTROL_FILE) (omega arith)
    (omega (arith, kept.synced, left.from_synced))
    (omega (arith, kept.synced, left.from_synced, left.to_end))
    (λ at low high. left.clean at (omega (arith, high, kept.synced)) (kept.clean at low high)))
    ∙ named.1

-- bytes that name a node have all of the slot
reaches : (node : ℕ) (bytes : List ℕ) → owner_of bytes ≡ Some node → place_of OWNER + OWNER_BYTES ≤ length bytes
reaches node bytes is = by (open_or_none (place_of OWNER) OWNER_BYTES bytes)
  where
    by : IsOpenAt (place_of OWNER) OWNER_BYTES bytes ⊎ (slot_at (place_of OWNER) OWNER_BYTES bytes ≡ None)
        → place_of OWNER + OWNER_BYTES ≤ length bytes
    by (inl opened) = opened.fits
    by (inr none) = let same : None ≡ Some node = sym (ap named_by none) ∙ is in absurd cc

-- so of a disk with which a life begins
pub settled_named : (node : ℕ) (calls : List Call)
    → state_of calls CONTROL_FILE ≡ settled (files_of calls CONTROL_FILE)
    → owner_of (files_of calls CONTROL_FILE) ≡ Some node → IsNamed node calls
settled_named node calls clean is =
    let bytes = files_of calls CONTROL_FILE in
    let kept : IsKept (settled bytes) (place_of OWNER) (place_of OWNER + OWNER_BYTES) =
    record { synced = reaches node bytes is; clean = λ at low high. refl } in
    (subst (λ (s : FileState). IsKept s (place_of OWNER) (place_of OWNER + OWNER_BYTES)) (sym clean) kept, is)
