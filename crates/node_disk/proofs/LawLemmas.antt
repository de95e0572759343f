-- What a save leaves of other files.
use Rattle.std.proofs.Common.{◌≡◌, ◌≢◌, ℕ, ◌-◌, ◌==◌, Bool, true, false, nat_le, List, [], ◌∷◌, drop, refl, sym}
use Rattle.std.specs.Prelude.{Some, if◌then◌else◌}
use Rattle.std.proofs.lemmas.Bool.{ne_eqb}
use Rattle.host_io.specs.Call.{Call}
use Rattle.redo_log.specs.Stored.{files_of}
use Rattle.sig_core.specs.declared.slots.ControlSlot.{ControlSlot}
use Rattle.sig_core.specs.Ring.{file_of}
use Rattle.sysfile_core.specs.declared.place.TheConstants.{CONTROL_FILE, SYSTEM_FILE}
use Rattle.sysfile_core.specs.Places.{place_of}
use Rattle.sysfile_core.specs.Slots.{control_bytes, system_bytes}
use Rattle.sysfile_core.specs.Writing.{closing_by, opening, slot_calls, stands_closed}
use Rattle.node_disk.specs.Laws.{CheckpointsLeaveFiles, RowsLeaveFiles, SystemLeavesFiles}
use Rattle.node_disk.specs.Saving.{free_file, name_calls, named_control, next_control, noted_system, redo_calls}
use Rattle.node_disk.specs.Saving.{rows_calls, settle_calls, slot_behind, system_calls, walk_calls}
use Rattle.node_disk.specs.Slots.{SlotsInUse}
use Rattle.node_disk.proofs.CallLemmas.{AreElsewhere, both_elsewhere, elsewhere_stays}
use Rattle.node_disk.proofs.RedoLemmas.{redo_elsewhere}

-- the calls that write a slot are of its file
pub slot_elsewhere : (this : ℕ) (bytes : List ℕ) (file place : ℕ) (body : List ℕ) → (file == this) ≡ false
    → AreElsewhere this (slot_calls bytes file place body)
slot_elsewhere this bytes file place body apart = by (stands_closed place bytes)
  where
    by : (stands : Bool) → AreElsewhere this (closing_by stands file place ∷ opening file place body)
    by true = (apart, (apart, (apart, (apart, (apart, (apart, tt))))))
    by false = (apart, (apart, (apart, (apart, (apart, (apart, tt))))))

pub rows_leave : RowsLeaveFiles
rows_leave s epoch bytes calls after ok file runs not_control not_redo =
    elsewhere_stays file (rows_calls (files_of calls CONTROL_FILE) s epoch bytes) calls after (Some after) ok
    (by (nat_le epoch s.control.saved)) runs refl
  where
    next : ControlSlot
    next = next_control s epoch bytes

    all : List Call
    all = slot_behind (files_of calls CONTROL_FILE) s.control.redo_end bytes (1 - s.control_at) next

    apart : AreElsewhere file all
    apart =
        both_elsewhere file (redo_calls s.control.parity s.control.redo_end bytes)
        (slot_calls (files_of calls CONTROL_FILE) CONTROL_FILE (place_of (1 - s.control_at))
        (drop 1 (control_bytes next)))
        (redo_elsewhere file s.control.parity s.control.redo_end bytes
        (λ position. ne_eqb (file_of s.control.parity position) file (λ same. not_redo position (sym same))))
        (slot_elsewhere file (files_of calls CONTROL_FILE) CONTROL_FILE (place_of (1 - s.control_at))
        (drop 1 (control_bytes next)) (ne_eqb CONTROL_FILE file (λ same. not_control (sym same))))

    by : (saved : Bool) → AreElsewhere file (if saved then [] else all)
    by true = tt
    by false = apart

-- nor are those of a save of the system slot of any other file than its own
pub system_elsewhere : (s : SlotsInUse) (epoch mask : ℕ) (bytes : List ℕ) (file : ℕ) → file ≢ SYSTEM_FILE
    → AreElsewhere file (system_calls bytes s epoch mask)
system_elsewhere s epoch mask bytes file not_system = by (nat_le epoch s.system.epoch)
  where
    place : ℕ
    place = place_of (1 - s.system_at)

    body : List ℕ
    body = drop 1 (system_bytes (noted_system s.system epoch mask))

    by : (saved : Bool) → AreElsewhere file (if saved then [] else slot_calls bytes SYSTEM_FILE place body)
    by true = tt
    by false =
        slot_elsewhere file bytes SYSTEM_FILE place body (ne_eqb SYSTEM_FILE file (λ same. not_system (sym same)))

pub system_leaves : SystemLeavesFiles
system_leaves s epoch mask calls after ok file runs not_system =
    let bytes = files_of calls SYSTEM_FILE in
    elsewhere_stays file (system_calls bytes s epoch mask) calls after (Some after) ok
    (system_elsewhere s epoch mask bytes file not_system) runs refl

-- the calls of a local checkpoint are of the file that isn't in use, and of the control file where it comes into use
pub checkpoints_leave : CheckpointsLeaveFiles
checkpoints_leave = record {
  written = λ s piece calls after ok file runs apart.
      elsewhere_stays file (walk_calls s piece) calls after (Some after) ok
      (ne_eqb (free_file s) file (λ same. apart (sym same)), tt) runs refl;
  settled = λ s calls after ok file runs apart.
      elsewhere_stays file (settle_calls s) calls after (Some after) ok
      (ne_eqb (free_file s) file (λ same. apart (sym same)), tt) runs refl;
  named = λ s finished calls after ok file runs apart.
      elsewhere_stays file (name_calls (files_of calls CONTROL_FILE) s finished) calls after (Some after) ok
      (slot_elsewhere file (files_of calls CONTROL_FILE) CONTROL_FILE (place_of (1 - s.control_at))
      (drop 1 (control_bytes (named_control s finished))) (ne_eqb CONTROL_FILE file (λ same. apart (sym same)))) runs
      refl;
}
