-- The calls that prepare a node and name the next life.
use Rattle.std.proofs.Common.{◌≡◌, ◌∙◌, ℕ, zero, suc, ◌+◌, ◌≤◌, ◌<◌, max, nat_lt, Bool, true, false, ◌==◌, List, [], ◌∷◌, ◌++◌, length, drop, take, refl, ap, sym, subst, arith, inl, inr, append_assoc, if◌then◌else◌}
use Rattle.std.specs.Prelude.{Option, Some, Result}
use Rattle.std.proofs.lemmas.Bool.{lt-ltb, true≢false}
use Rattle.host_io.specs.Call.{Call, Synced, Wrote}
use Rattle.host_io.specs.DiskState.{settled, state_of, written}
use Rattle.redo_log.specs.Stored.{files_of}
use Rattle.sig_core.specs.declared.fault.RestartFault.{RestartFault}
use Rattle.sig_core.specs.declared.piece.TheConstants.{PIECE_BYTES}
use Rattle.sig_core.specs.declared.slots.ControlSlot.{ControlSlot}
use Rattle.sig_core.specs.declared.view.Shape.{Shape}
use Rattle.sysfile_core.specs.declared.control.TheConstants.{CONTROL_BYTES}
use Rattle.sysfile_core.specs.declared.owner.TheConstants.{OWNER}
use Rattle.sysfile_core.specs.declared.place.TheConstants.{CLOSED, CONTROL_FILE, SYSTEM_FILE}
use Rattle.sysfile_core.specs.Owner.{is_of, owner_calls, owner_of, sync_if}
use Rattle.sysfile_core.specs.Places.{place_of}
use Rattle.sysfile_core.specs.Runs.{Runs}
use Rattle.sysfile_core.specs.Slots.{control_bytes, system_bytes}
use Rattle.sysfile_core.specs.Writing.{closing_by, opening, slot_calls, stands_closed}
use Rattle.sysfile_core.proofs.DiskLemmas.{runs_then}
use Rattle.sysfile_core.proofs.RunLemmas.{all_done, done}
use Rattle.sys_restart.specs.declared.places.Places.{Places}
use Rattle.sys_restart.specs.declared.restored.Restored.{Restored}
use Rattle.sys_restart.specs.Calls.{RunsOrWants, checkpoint_for, control_calls, file_calls, name_calls, next_slot, next_system, node_calls, node_calls_at, own_calls, piece_calls, write_calls}
use Rattle.sys_restart.specs.Places.{control_places, free_system}
use Rattle.sys_restart.proofs.NextLemmas.{control_size}
use Rattle.sys_restart.proofs.OwnerLemmas.{front_size, gate_on, own_same, owner_calls_same, same_behind}
use Rattle.sys_restart.proofs.PieceLemmas.{runs_stop}

-- nothing was done, where a call was to be made
no_slot_call : (stands : Bool) (file place : ℕ) (behind calls : List Call) (told : Option (List Call))
    → told ≡ Some calls → Runs (closing_by stands file place ∷ behind) calls told false
no_slot_call true file place behind calls told is = inl (is, refl)
no_slot_call false file place behind calls told is = inl (inl is, refl)

no_file_call : (more file at : ℕ) (bytes : List ℕ) (behind calls : List Call) (told : Option (List Call))
    → told ≡ Some calls → Runs (piece_calls more file at bytes ++ Synced file ∷ behind) calls told false
unfolding piece_calls
no_file_call zero file at bytes behind calls told is = inl (is, refl)
no_file_call (suc more) file at [] behind calls told is = inl (is, refl)
no_file_call (suc more) file at (byte ∷ bytes) behind calls told is = inl (inl is, refl)

pub none_named : (calls : List Call) (shape : Shape) (r : Restored) (told : Option (List Call)) → told ≡ Some calls
    → Runs (name_calls calls shape r) calls told false
none_named calls shape r told is =
    let place = place_of (free_system (files_of calls SYSTEM_FILE)) in
    no_slot_call (stands_closed place (files_of calls SYSTEM_FILE)) SYSTEM_FILE place
    (opening SYSTEM_FILE place (drop 1 (system_bytes (next_system shape r)))) calls told is

none_written : (node : ℕ) (control : List ℕ) (which : ℕ) (slot : ControlSlot) (bytes : List ℕ) (calls : List Call)
    (told : Option (List Call)) → told ≡ Some calls → Runs (write_calls node control which slot bytes) calls told false
none_written node control which slot bytes calls told is =
    subst (λ asks. Runs asks calls told false)
    (sym (append_assoc (piece_calls (length bytes) slot.ckpt_file 0 bytes) (Synced slot.ckpt_file ∷ [])
    (control_calls node control which slot)))
    (no_file_call (length bytes) slot.ckpt_file 0 bytes (control_calls node control which slot) calls told is)

pub none_owned : (node size : ℕ) (control : List ℕ) (calls : List Call) (told : Option (List Call))
    → told ≡ Some calls → Runs (own_calls node size control) calls told false
none_owned node size control calls told is =
    by (nat_lt size (place_of 1 + CONTROL_BYTES)) (is_of node (owner_of control))
  where
    by : (short own : Bool)
        → Runs
        ((if short then Wrote CONTROL_FILE (place_of 1) (CLOSED ∷ []) ∷ Synced CONTROL_FILE ∷ [] else [])
        ++ sync_if own (slot_calls control CONTROL_FILE (place_of OWNER) (node ∷ []))) calls told false
    by true own = inl (inl is, refl)
    by false true = inl (is, refl)
    by false false =
        no_slot_call (stands_closed (place_of OWNER) control) CONTROL_FILE (place_of OWNER)
        (opening CONTROL_FILE (place_of OWNER) (node ∷ [])) calls told is

pub none_prepared : (calls : List Call) (shape : Shape) (node : ℕ) (r : Restored) (told : Option (List Call))
    → told ≡ Some calls → Runs (node_calls calls shape node r) calls told false
none_prepared calls shape node r told is =
    let places = control_places r.generation (files_of calls CONTROL_FILE) in
    let bytes = checkpoint_for shape node r in
    none_written node (files_of calls CONTROL_FILE) places.free (next_slot r places.in_use (length bytes)) bytes calls
    told is

-- the calls that write these bytes are those of the node
pub next_written : (calls : List Call) (shape : Shape) (node : ℕ) (r : Restored) (places : Places) (bytes : List ℕ)
    (told : Option (List Call)) (result : Result (Unit {0}) RestartFault)
    → places ≡ control_places r.generation (files_of calls CONTROL_FILE) → bytes ≡ checkpoint_for shape node r
    → RunsOrWants (node_calls_at node (files_of calls CONTROL_FILE) places r bytes) calls told result
    → RunsOrWants (node_calls calls shape node r) calls told result
next_written calls shape node r places bytes told result are is runs =
    let control = files_of calls CONTROL_FILE in
    subst
    (λ (p : Places). RunsOrWants (node_calls_at node control p r (checkpoint_for shape node r)) calls told result) are
    (subst (λ (b : List ℕ). RunsOrWants (node_calls_at node control places r b) calls told result) is runs)

pub name_made : (calls : List Call) (shape : Shape) (r : Restored) (which : ℕ) (slot : List ℕ)
    (told : Option (List Call)) (ok : Bool) → which ≡ free_system (files_of calls SYSTEM_FILE)
    → slot ≡ system_bytes (next_system shape r)
    → Runs (slot_calls (files_of calls SYSTEM_FILE) SYSTEM_FILE (place_of which) (drop 1 slot)) calls told ok
    → Runs (name_calls calls shape r) calls told ok
name_made calls shape r which slot told ok is so runs =
    let system = files_of calls SYSTEM_FILE in
    let one : Runs (slot_calls system SYSTEM_FILE (place_of which) (drop 1 (system_bytes (next_system shape r)))) calls
    told ok =
    subst (λ (s : List ℕ). Runs (slot_calls system SYSTEM_FILE (place_of which) (drop 1 s)) calls told ok) so runs in
    subst
    (λ (w : ℕ). Runs (slot_calls system SYSTEM_FILE (place_of w) (drop 1 (system_bytes (next_system shape r)))) calls
    told ok)
    is one

-- calls on a file leave another
same_record : (one other : List Call) → Some one ≡ Some other → one ≡ other
same_record one other same = cc

sync_leaves : (file other : ℕ) (calls after : List Call) → (file == other) ≡ false
    → Runs (Synced file ∷ []) calls (Some after) true → files_of after other ≡ files_of calls other
sync_leaves file other calls after apart (inl (fails, not_so)) = absurd (true≢false not_so)
sync_leaves file other calls after apart (inr (may, (is, so))) =
    ap (λ (made : List Call). files_of made other) (same_record after (Synced file ∷ calls) is)
    ∙ ap (λ (b : Bool). (if b then settled (state_of calls other).bytes else state_of calls other).bytes) apart

pub file_leaves : (more file at other : ℕ) (bytes : List ℕ) (calls after : List Call) → (file == other) ≡ false
    → Runs (piece_calls more file at bytes ++ Synced file ∷ []) calls (Some after) true
    → files_of after other ≡ files_of calls other
unfolding piece_calls
file_leaves zero file at other bytes calls after apart runs = sync_leaves file other calls after apart runs
file_leaves (suc more) file at other [] calls after apart runs = sync_leaves file other calls after apart runs
file_leaves (suc more) file at other (byte ∷ bytes) calls after apart (inl (fails, not_so)) = absurd (true≢false not_so)
file_leaves (suc more) file at other (byte ∷ bytes) calls after apart (inr (may, runs)) =
    let piece = take PIECE_BYTES (byte ∷ bytes) in
    file_leaves more file (at + PIECE_BYTES) other (drop PIECE_BYTES (byte ∷ bytes)) (Wrote file at piece ∷ calls) after
    apart runs
    ∙ ap (λ (b : Bool). (if b then written (state_of calls other) at (length piece) piece else state_of calls
    other).bytes) apart

-- a file was written and synced, and then a slot, and the control file made the node's own
pub file_made : (node file which : ℕ) (slot : ControlSlot) (bytes : List ℕ) (calls : List Call)
    (mid told : Option (List Call)) (ok : Bool) → (file == CONTROL_FILE) ≡ false → slot.ckpt_file ≡ file
    → Runs (file_calls file bytes) calls mid true
    → ((after : List Call) → mid ≡ Some after
    → Runs (control_calls node (files_of after CONTROL_FILE) which slot) after told ok)
    → Runs (write_calls node (files_of calls CONTROL_FILE) which slot bytes) calls told ok
file_made node file which slot bytes calls mid told ok apart is first second =
    subst
    (λ (f : ℕ). Runs (file_calls f bytes ++ control_calls node (files_of calls CONTROL_FILE) which slot) calls told ok)
    (sym is)
    (runs_then (file_calls file bytes) (control_calls node (files_of calls CONTROL_FILE) which slot) calls mid told ok
    first
    (λ after made.
    subst (λ (control : List ℕ). Runs (control_calls node control which slot) after told ok)
    (file_leaves (length bytes) file 0 CONTROL_FILE bytes calls after apart
    (subst (λ (m : Option (List Call)). Runs (file_calls file bytes) calls m true) made first))
    (second after made)))

pub slot_made : (node which : ℕ) (slot : ControlSlot) (calls : List Call) (mid told : Option (List Call)) (ok : Bool)
    → which ≤ 1
    → Runs (slot_calls (files_of calls CONTROL_FILE) CONTROL_FILE (place_of which) (drop 1 (control_bytes slot))) calls
    mid true
    → ((after : List Call) → mid ≡ Some after
    → Runs (own_calls node (length (files_of after CONTROL_FILE)) (files_of after CONTROL_FILE)) after told ok)
    → Runs (control_calls node (files_of calls CONTROL_FILE) which slot) calls told ok
slot_made node which slot calls mid told ok few first second =
    let control = files_of calls CONTROL_FILE in
    let body = drop 1 (control_bytes slot) in
    let asks = slot_calls control CONTROL_FILE (place_of which) body in
    runs_then asks (own_calls node (max (length control) (place_of which + CONTROL_BYTES)) control) calls mid told ok
    first
    (λ after made.
    let is : after ≡ done asks calls =
    all_done asks calls after (subst (λ (m : Option (List Call)). Runs asks calls m true) made first) in
    subst (λ own. Runs own after told ok)
    (ap (λ (c : List Call). own_calls node (length (files_of c CONTROL_FILE)) (files_of c CONTROL_FILE)) is
    ∙ own_same which (stands_closed (place_of which) control) body calls few (control_size slot) node)
    (second after made))

-- the gate of the second slot was closed, where the file ended before
pub closed_made : (node size : ℕ) (calls : List Call) (mid told : Option (List Call)) (ok : Bool)
    → size < place_of 1 + CONTROL_BYTES
    → Runs (Wrote CONTROL_FILE (place_of 1) (CLOSED ∷ []) ∷ Synced CONTROL_FILE ∷ []) calls mid true
    → ((after : List Call) → mid ≡ Some after → Runs (owner_calls node (files_of after CONTROL_FILE)) after told ok)
    → Runs (own_calls node size (files_of calls CONTROL_FILE)) calls told ok
closed_made node size calls mid told ok short first second =
    let control = files_of calls CONTROL_FILE in
    let asks = Wrote CONTROL_FILE (place_of 1) (CLOSED ∷ []) ∷ Synced CONTROL_FILE ∷ [] in
    let all : Runs (asks ++ owner_calls node control) calls told ok =
    runs_then asks (owner_calls node control) calls mid told ok first
    (λ after made.
    let is : after ≡ done asks calls =
    all_done asks calls after (subst (λ (m : Option (List Call)). Runs asks calls m true) made first) in
    subst (λ own. Runs own after told ok)
    (ap (λ (c : List Call). owner_calls node (files_of c CONTROL_FILE)) is
    ∙ owner_calls_same node control (files_of (done asks calls) CONTROL_FILE)
    (same_behind front_size asks calls (gate_on front_size (omega arith))))
    (second after made)) in
    subst (λ (b : Bool). Runs ((if b then asks else []) ++ owner_calls node control) calls told ok)
    (sym (lt-ltb size (place_of 1 + CONTROL_BYTES) short)) all

-- it wasn't closed
pub closing_stops : (node size : ℕ) (control : List ℕ) (calls : List Call) (told : Option (List Call))
    → size < place_of 1 + CONTROL_BYTES
    → Runs (Wrote CONTROL_FILE (place_of 1) (CLOSED ∷ []) ∷ Synced CONTROL_FILE ∷ []) calls told false
    → Runs (own_calls node size control) calls told false
closing_stops node size control calls told short runs =
    let asks = Wrote CONTROL_FILE (place_of 1) (CLOSED ∷ []) ∷ Synced CONTROL_FILE ∷ [] in
    subst (λ (b : Bool). Runs ((if b then asks else []) ++ owner_calls node control) calls told false)
    (sym (lt-ltb size (place_of 1 + CONTROL_BYTES) short))
    (runs_stop asks (owner_calls node control) calls told runs)
