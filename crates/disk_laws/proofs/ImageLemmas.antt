-- What a crash leaves of the file of system slots, and of all others, put together.
use Rattle.std.proofs.Common.{◌≡◌, ◌≢◌, ◌∙◌, ℕ, ◌<◌, ◌==◌, Bool, true, false, List, refl, ap, sym, subst, arith}
use Rattle.std.proofs.Common.{if◌then◌else◌}
use Rattle.std.specs.List.{list_all}
use Rattle.std.proofs.lemmas.Bool.{eqb-true, ne_eqb, true≢false, eq-eqb}
use Rattle.host_io.specs.Call.{Call}
use Rattle.host_io.specs.DiskState.{FileState, state_of}
use Rattle.host_io.specs.Image.{IsImage, IsLeft, IsRecord}
use Rattle.host_io.specs.declared.limits.TheConstants.{FILES}
use Rattle.host_io.proofs.StateLemmas.{reads_as_an_image}
use Rattle.redo_log.specs.Stored.{files_of}
use Rattle.sig_core.specs.Ring.{file_of}
use Rattle.sig_core.specs.Table.{Rows}
use Rattle.sig_core.specs.declared.redo.Redo.{Redo}
use Rattle.sig_core.specs.declared.slots.ControlSlot.{ControlSlot}
use Rattle.sysfile_core.specs.declared.place.TheConstants.{CONTROL_FILE, SYSTEM_FILE}
use Rattle.sys_restart.specs.Files.{Files}
use Rattle.sys_restart.proofs.ControlLemmas.{NamesFiles, in_use_names}
use Rattle.sys_restart.proofs.SameRows.{records_same, redo_file, rows_same}
use Rattle.node_restart.specs.Rows.{RestoresRows}

-- the file of system slots as in some files, the others as in others
abbrev pub joined : Files → Files → Files
joined system others file = if file == SYSTEM_FILE then system file else others file

-- a crash may leave so of all files but that of system slots
abbrev pub AreOthersLeft : List Call → Files → Type 0
AreOthersLeft calls image = (file : ℕ) → file < FILES → file ≢ SYSTEM_FILE → IsImage (state_of calls file) (image file)

pub joined_left : (calls : List Call) (system others : Files)
    → IsImage (state_of calls SYSTEM_FILE) (system SYSTEM_FILE) → AreOthersLeft calls others
    → IsLeft calls (joined system others)
joined_left calls system others own rest file there = by (file == SYSTEM_FILE) refl
  where
    by : (same : Bool) → (file == SYSTEM_FILE) ≡ same
        → IsImage (state_of calls file) (if same then system file else others file)
    by true e =
        subst (λ (f : ℕ). IsImage (state_of calls f) (system f)) (sym (eqb-true file SYSTEM_FILE e)) own
    by false e =
        rest file there (λ same. true≢false (sym (eq-eqb file SYSTEM_FILE same) ∙ e))

-- where the others are as they read
pub system_left : (calls : List Call) (image : Files) → IsRecord calls
    → IsImage (state_of calls SYSTEM_FILE) (image SYSTEM_FILE) → IsLeft calls (joined image (files_of calls))
system_left calls image kept own =
    joined_left calls image (files_of calls) own (λ file there apart. reads_as_an_image calls kept file there)

-- and where that one is
pub others_left : (calls : List Call) (image : Files) → IsRecord calls → AreOthersLeft calls image
    → IsLeft calls (joined (files_of calls) image)
others_left calls image kept rest =
    joined_left calls (files_of calls) image (reads_as_an_image calls kept SYSTEM_FILE (omega arith)) rest

-- what is restored doesn't depend on system slots
pub others_restore : (least : ℕ) (system image : Files) (slot : ControlSlot) (before : Rows) (redo : List Redo)
    → RestoresRows least (joined system image) slot before redo → RestoresRows least image slot before redo
others_restore least system image slot before redo restores = (
  restores.0,
  λ epoch up.
      sym (rows_same epoch image (joined system image) slot
      (apart slot.ckpt_file (λ is. omega (arith, is, names.least)))
      in_log)
      ∙ restores.1 epoch up,
  λ test so.
      subst (λ found. list_all test found ≡ true) (records_same image (joined system image) slot in_log)
      (restores.2 test so),
)
  where
    names : NamesFiles slot
    names = in_use_names slot.generation (image CONTROL_FILE) slot restores.0

    apart : (file : ℕ) → file ≢ SYSTEM_FILE → joined system image file ≡ image file
    apart file not_system =
        ap (λ (same : Bool). if same then system file else image file) (ne_eqb file SYSTEM_FILE not_system)

    in_log : (position : ℕ)
        → joined system image (file_of slot.parity position) ≡ image (file_of slot.parity position)
    in_log position =
        apart (file_of slot.parity position)
        (λ is. omega (arith, is, (redo_file slot.parity position names.parity).0))

-- so it is as long as no file but that of system slots was written
pub others_same : (calls after : List Call) (image : Files)
    → ((file : ℕ) → file ≢ SYSTEM_FILE → state_of after file ≡ state_of calls file) → AreOthersLeft after image
    → AreOthersLeft calls image
others_same calls after image same left file there apart =
    subst (λ (s : FileState). IsImage s (image file)) (same file apart) (left file there apart)
