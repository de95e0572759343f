-- Redo is written, and a control slot behind it.
use Rattle.std.proofs.Common.{◌≡◌, ◌≤◌, ◌<◌, ℕ, ◌+◌, ◌-◌, nat_lt, Bool, true, false, List, [], length, drop, refl, ap}
use Rattle.std.proofs.Common.{subst, arith}
use Rattle.std.specs.Prelude.{Option, Some, if◌then◌else◌}
use Rattle.std.proofs.lemmas.Bool.{ltb-false}
use Rattle.std.proofs.lemmas.List.{length-drop}
use Rattle.host_io.specs.Call.{Call}
use Rattle.host_io.specs.DiskState.{FileState}
use Rattle.redo_log.specs.LogState.{LogState, bytes_from, end_of}
use Rattle.redo_log.specs.Stored.{files_of}
use Rattle.sig_core.specs.declared.slots.ControlSlot.{ControlSlot}
use Rattle.sysfile_core.specs.declared.place.TheConstants.{CONTROL_FILE}
use Rattle.sysfile_core.specs.Places.{place_of}
use Rattle.sysfile_core.specs.Runs.{Runs}
use Rattle.sysfile_core.specs.Slots.{control_bytes}
use Rattle.sysfile_core.specs.Writing.{slot_calls}
use Rattle.sysfile_core.proofs.DiskLemmas.{runs_then}
use Rattle.node_disk.specs.Saving.{redo_calls, slot_behind}
use Rattle.node_disk.proofs.CallLemmas.{elsewhere_stays}
use Rattle.node_disk.proofs.RedoLemmas.{not_control, redo_elsewhere}

-- bytes of a log end at its end, or where they would begin
pub within_log : (log : LogState) (at end most : ℕ) (bytes : List ℕ) → bytes ≡ bytes_from log at → end ≡ end_of log
    → at < most → end < most → at + length bytes < most
unfolding bytes_from
within_log log at end most bytes are is before last = by (nat_lt at log.flushed) refl (ap length are)
  where
    by : (early : Bool) → nat_lt at log.flushed ≡ early
        → length bytes ≡ length (if early then [] else drop (at - log.flushed) log.left) → at + length bytes < most
    by true e size = omega (arith, size, before)
    by false e size =
        let least : log.flushed ≤ at = ltb-false at log.flushed e in
        omega (arith, size, length-drop (at - log.flushed) log.left, least, is, before, last)

-- redo was written, which leaves the control file, and then the slot was
pub slot_made : (from : ℕ) (bytes : List ℕ) (which : ℕ) (slot : ControlSlot) (calls : List Call)
    (mid told : Option (List Call)) (ok : Bool) → Runs (redo_calls slot.parity from bytes) calls mid true
    → ((after : List Call) → mid ≡ Some after
    → Runs (slot_calls (files_of after CONTROL_FILE) CONTROL_FILE (place_of which) (drop 1 (control_bytes slot))) after
    told ok)
    → Runs (slot_behind (files_of calls CONTROL_FILE) from bytes which slot) calls told ok
slot_made from bytes which slot calls mid told ok first second =
    let asks = redo_calls slot.parity from bytes in
    let apart = redo_elsewhere CONTROL_FILE slot.parity from bytes (not_control slot.parity) in
    runs_then asks
    (slot_calls (files_of calls CONTROL_FILE) CONTROL_FILE (place_of which) (drop 1 (control_bytes slot))) calls mid
    told
    ok first
    (λ after made.
    subst
    (λ (control : List ℕ). Runs (slot_calls control CONTROL_FILE (place_of which) (drop 1 (control_bytes slot))) after
    told ok)
    (ap (λ (s : FileState). s.bytes) (elsewhere_stays CONTROL_FILE asks calls after mid true apart first made))
    (second after made))
