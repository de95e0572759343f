-- Whatever a crash leaves while a node's disk is prepared, a restart is the same.
use Rattle.std.proofs.Common.{◌≡◌, ◌∙◌, ℕ, ◌≤◌, ◌<◌, ◌==◌, Bool, true, false, List, refl, ap, sym, subst, arith, if◌then◌else◌}
use Rattle.std.specs.Prelude.{Option, Some, Ok}
use Rattle.std.proofs.lemmas.Bool.{eqb-true, ne_eqb}
use Rattle.host_io.specs.Call.{Call}
use Rattle.host_io.specs.DiskState.{FileState, settled, state_of}
use Rattle.host_io.specs.Image.{IsImage, IsLeft}
use Rattle.host_io.specs.declared.limits.TheConstants.{FILES}
use Rattle.host_io.proofs.StateLemmas.{settled_is_kept}
use Rattle.redo_log.specs.Stored.{files_of}
use Rattle.sig_core.specs.Ring.{file_of}
use Rattle.sig_core.specs.declared.slots.ControlSlot.{ControlSlot}
use Rattle.sig_core.specs.declared.view.Shape.{Shape}
use Rattle.sysfile_core.specs.declared.place.TheConstants.{CONTROL_FILE, SYSTEM_FILE}
use Rattle.sysfile_core.specs.Owner.{owner_of}
use Rattle.sysfile_core.specs.Reading.{control_of_file, system_at}
use Rattle.sys_restart.specs.Files.{Disks, Files}
use Rattle.sys_restart.specs.Latest.{later, of_shape}
use Rattle.sys_restart.specs.Lost.{has_saved}
use Rattle.sys_restart.specs.Outdated.{is_outdated}
use Rattle.sys_restart.specs.Owner.{is_owned}
use Rattle.sys_restart.specs.Prepared.{IsSettled, with_files}
use Rattle.sys_restart.proofs.AlikeLemmas.{AllAlike, AreAlike, alike_itself}
use Rattle.sys_restart.proofs.ControlLemmas.{in_use_names}
use Rattle.sys_restart.proofs.LostLemmas.{StayUnsaved}
use Rattle.sys_restart.proofs.MomentLemmas.{IsKeptBy, LeavesElse, else_kept}
use Rattle.sys_restart.proofs.SameRows.{records_same, redo_file, rows_same}

-- a file of which nothing is dirty is left as it reads
pub left_as : (calls : List Call) (image : Files) (file : ℕ) (bytes : List ℕ) → IsLeft calls image → file < FILES
    → state_of calls file ≡ settled bytes → image file ≡ bytes
left_as calls image file bytes left there same =
    settled_is_kept bytes (image file) (subst (λ (s : FileState). IsImage s (image file)) same (left file there))

-- all other files are as they were
abbrev pub LeavesOthers : ℕ → (ℕ → FileState) → List Call → Type 0
LeavesOthers file states calls = (other : ℕ) → LeavesElse file other (states other) calls

pub others_kept : (file end : ℕ) (states : ℕ → FileState) → IsKeptBy file end (LeavesOthers file states)
others_kept file end states = record {
  by_write = λ calls at bytes fits holds other.
      (else_kept file other end (states other)).by_write calls at bytes fits (holds other);
  by_tear = λ calls at asked piece few fits holds other.
      (else_kept file other end (states other)).by_tear calls at asked piece few fits (holds other);
  by_sync = λ calls holds other. (else_kept file other end (states other)).by_sync calls (holds other);
}

-- An image is near to what a disk reads as: it is the same but for one file and the control slots. Of these the one in
-- use still is, they tell of no later epoch where they didn't, and no rows were saved under them where none were and
-- none are saved at the epoch. The control file is the node's own, or no other's, where it was.
pub record IsNear (before : List Call) (node file generation epoch : ℕ) (image : Files) : Type 0 where
  pub others :
      (other : ℕ) → other < FILES → (file == other) ≡ false → (CONTROL_FILE == other) ≡ false
      → image other ≡ files_of before other
  pub slots :
      (slot : Option ControlSlot) → control_of_file generation (files_of before CONTROL_FILE) ≡ Ok slot
      → control_of_file generation (image CONTROL_FILE) ≡ Ok slot
  pub ahead :
      (bound : ℕ) → is_outdated generation bound (files_of before CONTROL_FILE) ≡ false
      → is_outdated generation bound (image CONTROL_FILE) ≡ false
  pub unsaved :
      epoch ≡ 0 → has_saved (files_of before CONTROL_FILE) ≡ false → has_saved (image CONTROL_FILE) ≡ false
  pub owned :
      is_owned node (owner_of (files_of before CONTROL_FILE)) ≡ true
      → is_owned node (owner_of (image CONTROL_FILE)) ≡ true

-- while the file is written
pub near_file : (before moment : List Call) (node file generation epoch : ℕ) (image : Files) → IsSettled before
    → LeavesOthers file (state_of before) moment → (file == CONTROL_FILE) ≡ false → IsLeft moment image
    → IsNear before node file generation epoch image
near_file before moment node file generation epoch image settles leaves apart left = record {
  others = λ other there not_file not_control. same other there not_file;
  slots = λ slot is. ap (control_of_file generation) (same CONTROL_FILE (omega arith) apart) ∙ is;
  ahead = λ bound is. ap (is_outdated generation bound) (same CONTROL_FILE (omega arith) apart) ∙ is;
  unsaved = λ zero is. ap has_saved (same CONTROL_FILE (omega arith) apart) ∙ is;
  owned = λ own. ap (λ bytes. is_owned node (owner_of bytes)) (same CONTROL_FILE (omega arith) apart) ∙ own;
}
  where
    same : (other : ℕ) → other < FILES → (file == other) ≡ false → image other ≡ files_of before other
    same other there not_file =
        left_as moment image other (files_of before other) left there (leaves other not_file ∙ settles other there)

-- a near image is as good as the disk
pub near_alike : (before : List Call) (shape : Shape) (node file generation epoch : ℕ) (image : Files)
    → IsNear before node file generation epoch image → 2 ≤ file → file ≤ 3
    → ((slot : ControlSlot) → control_of_file generation (files_of before CONTROL_FILE) ≡ Ok (Some slot)
    → (file == slot.ckpt_file) ≡ false)
    → AreAlike shape node generation (files_of before) image
near_alike before shape node file generation epoch image near least most apart = record {
  system = ap
      (λ bytes. later (of_shape shape node (system_at 0 bytes)) (of_shape shape node (system_at 1 bytes)))
      (near.others SYSTEM_FILE (omega arith) (ne_eqb file SYSTEM_FILE (λ same. absurd (omega (arith, same, least))))
      refl);
  slots = near.slots;
  rows = λ slot epoch is.
      let names = in_use_names generation (files_of before CONTROL_FILE) slot is in
      rows_same epoch (files_of before) image slot
      (near.others slot.ckpt_file (omega (arith, names.most)) (apart slot is)
      (ne_eqb CONTROL_FILE slot.ckpt_file (λ same. absurd (omega (arith, same, names.least)))))
      (log_near slot is);
  redo = λ slot is. records_same (files_of before) image slot (log_near slot is);
  ahead = near.ahead;
  owned = near.owned;
}
  where
    -- the redo is in none of the files that were written
    log_near : (slot : ControlSlot) → control_of_file generation (files_of before CONTROL_FILE) ≡ Ok (Some slot)
        → (position : ℕ) → image (file_of slot.parity position) ≡ files_of before (file_of slot.parity position)
    log_near slot is position =
        let names = in_use_names generation (files_of before CONTROL_FILE) slot is in
        let at = redo_file slot.parity position names.parity in
        near.others (file_of slot.parity position) at.1
        (ne_eqb file (file_of slot.parity position) (λ same. absurd (omega (arith, same, at.0, most))))
        (ne_eqb CONTROL_FILE (file_of slot.parity position) (λ same. absurd (omega (arith, same, at.0))))

-- files that are the same are as good
pub settled_alike : (before : List Call) (shape : Shape) (node generation : ℕ) (image : Files)
    → ((file : ℕ) → file < FILES → image file ≡ files_of before file)
    → AreAlike shape node generation (files_of before) image
settled_alike before shape node generation image same = record {
  system = ap
      (λ bytes. later (of_shape shape node (system_at 0 bytes)) (of_shape shape node (system_at 1 bytes)))
      (same SYSTEM_FILE (omega arith));
  slots = λ slot is. ap (control_of_file generation) (same CONTROL_FILE (omega arith)) ∙ is;
  rows = λ slot epoch is.
      let names = in_use_names generation (files_of before CONTROL_FILE) slot is in
      rows_same epoch (files_of before) image slot (same slot.ckpt_file (omega (arith, names.most)))
      (λ position. same (file_of slot.parity position) (redo_file slot.parity position names.parity).1);
  redo = λ slot is.
      let names = in_use_names generation (files_of before CONTROL_FILE) slot is in
      records_same (files_of before) image slot
      (λ position. same (file_of slot.parity position) (redo_file slot.parity position names.parity).1);
  ahead = λ epoch is. ap (is_outdated generation epoch) (same CONTROL_FILE (omega arith)) ∙ is;
  owned = λ own. ap (λ bytes. is_owned node (owner_of bytes)) (same CONTROL_FILE (omega arith)) ∙ own;
}

-- all disks are alike where those of one node are
pub disks_alike : (shape : Shape) (generation node : ℕ) (disks : Disks) (one two : Files)
    → AreAlike shape node generation one two
    → AllAlike shape generation (with_files disks node one) (with_files disks node two)
disks_alike shape generation node disks one two alike other = by (other == node) refl
  where
    by : (b : Bool) → (other == node) ≡ b
        → AreAlike shape other generation (if b then one else disks other) (if b then two else disks other)
    by true e = subst (λ (n : ℕ). AreAlike shape n generation one two) (sym (eqb-true other node e)) alike
    by false e = alike_itself shape other generation (disks other)

-- the same of whether rows were saved
pub disks_unsaved : (node : ℕ) (disks : Disks) (one two : Files)
    → (has_saved (one CONTROL_FILE) ≡ false → has_saved (two CONTROL_FILE) ≡ false)
    → StayUnsaved (with_files disks node one) (with_files disks node two)
disks_unsaved node disks one two stays other = by (other == node)
  where
    by : (b : Bool) → has_saved ((if b then one else disks other) CONTROL_FILE) ≡ false
        → has_saved ((if b then two else disks other) CONTROL_FILE) ≡ false
    by true is = stays is
    by false is = is
