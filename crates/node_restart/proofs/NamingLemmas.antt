-- What a local checkpoint leaves of the rows of a disk, while it is written and as it comes into use.
use Rattle.std.proofs.Common.{◌≡◌, ◌≢◌, ◌∙◌, ◌⊎◌, ◌≤◌, ℕ, ◌-◌, ◌==◌, Bool, true, List, [], ◌++◌, length, drop}
use Rattle.std.proofs.Common.{refl, ap, sym, subst, inl, inr, arith}
use Rattle.std.specs.Prelude.{Some}
use Rattle.std.proofs.lemmas.Bool.{eqb-false, ne_eqb}
use Rattle.host_io.specs.Call.{Call}
use Rattle.host_io.specs.DiskState.{state_of}
use Rattle.host_io.specs.Image.{IsRecord, LeavesOnly}
use Rattle.redo_log.specs.Stored.{files_of}
use Rattle.sig_core.specs.declared.redo.Redo.{Redo}
use Rattle.sig_core.specs.declared.slots.ControlSlot.{ControlSlot}
use Rattle.sig_core.specs.Ring.{file_of}
use Rattle.sig_core.specs.Table.{Rows}
use Rattle.sysfile_core.specs.declared.place.TheConstants.{CONTROL_FILE}
use Rattle.sysfile_core.specs.Places.{place_of}
use Rattle.sysfile_core.specs.Reading.{control_of_file}
use Rattle.sysfile_core.specs.Runs.{Runs}
use Rattle.sysfile_core.specs.Slots.{control_bytes}
use Rattle.sysfile_core.proofs.RunLemmas.{moments}
use Rattle.sys_restart.specs.Calls.{next_file}
use Rattle.sys_restart.proofs.ControlLemmas.{NamesFiles, in_use_is, in_use_names}
use Rattle.sys_restart.proofs.NextLemmas.{next_file_is, other_file}
use Rattle.sys_restart.proofs.SameRows.{redo_file}
use Rattle.node_disk.specs.Laws.{HasControl, IsEither}
use Rattle.node_disk.specs.Saving.{free_file, name_calls, named_control, settle_calls, walk_calls, walk_named}
use Rattle.node_disk.specs.Slots.{SlotsInUse}
use Rattle.node_disk.proofs.CallLemmas.{AreElsewhere, elsewhere_through}
use Rattle.node_disk.proofs.ControlLaw.{naming_stays}
use Rattle.node_disk.proofs.LawLemmas.{slot_elsewhere}
use Rattle.node_restart.specs.Naming.{HasRowsThroughout, NamesKeepRows, WalksKeepRows}
use Rattle.node_restart.specs.Rows.{HasRows, NamesRows, RestoresRows}
use Rattle.node_restart.proofs.NamedLemmas.{kept_same, named_restored, named_still}
use Rattle.node_restart.proofs.SystemLaw.{GoesOn, control_still, goes_on, older_kept}

-- the checkpoint in use isn't in the file that isn't
pub free_apart : (s : SlotsInUse) (calls : List Call) → HasControl s calls → s.control.ckpt_file ≢ free_file s
free_apart s calls has same =
    let generation = s.control.generation in
    let bytes = files_of calls CONTROL_FILE in
    eqb-false (free_file s) s.control.ckpt_file
    (ap (λ in_use. next_file in_use == s.control.ckpt_file)
    (sym (in_use_is generation bytes (Some s.control) has.in_use))
    ∙ other_file generation bytes s.control has.in_use)
    (sym same)

module _ (s : SlotsInUse) (least : ℕ) (start : Rows) (redo : List Redo) (before : List Call)
    (has : HasRows s least start redo before) where
  names : NamesFiles s.control
  names = in_use_names s.control.generation (files_of before CONTROL_FILE) s.control has.control.in_use

  -- calls on no file but that one
  apart_keeps : (asks after : List Call) (ok : Bool) → ((file : ℕ) → file ≢ free_file s → AreElsewhere file asks)
      → Runs asks before (Some after) ok → HasRowsThroughout s least start redo before after
  apart_keeps asks after ok apart runs newer older split late = record {
    control = control_still s before older kept
        (same CONTROL_FILE (λ is. absurd (omega (arith, is, (next_file_is (Some s.control)).0)))) has.control;
    named = named_still s.control least start redo before older has.named
        (same s.control.ckpt_file (free_apart s before has.control))
        (λ position byte low below.
        kept_same before older s.control.parity position byte
        (same (file_of s.control.parity position)
        (λ is.
        absurd
        (omega (
          arith,
          is,
          (redo_file s.control.parity position names.parity).0,
          (next_file_is (Some s.control)).1,
        )))));
  }
    where
      kept : IsRecord older
      kept =
          older_kept newer older (subst IsRecord split (goes_on asks before after ok has.control.kept runs).0)

      same : (file : ℕ) → file ≢ free_file s → state_of older file ≡ state_of before file
      same file other =
          moments (λ moment. state_of moment file ≡ state_of before file) asks before after newer older ok
          (elsewhere_through file asks before (state_of before file) (apart file other) refl) runs split late

pub walks_keep : WalksKeepRows
walks_keep = record {
  written = λ s piece least start redo before after ok has runs.
      apart_keeps s least start redo before has (walk_calls s piece) after ok
      (λ file other. (ne_eqb (free_file s) file (λ same. other (sym same)), tt)) runs;
  settled = λ s least start redo before after ok has runs.
      apart_keeps s least start redo before has (settle_calls s) after ok
      (λ file other. (ne_eqb (free_file s) file (λ same. other (sym same)), tt)) runs;
}

pub names_keep : NamesKeepRows
names_keep s finished least start own redo kept before after ok has may named runs = (leaves, behind)
  where
    next : ControlSlot
    next = named_control s finished

    asks : List Call
    asks = name_calls (files_of before CONTROL_FILE) s finished

    stays : LeavesOnly after (length before)
        (λ image. IsEither (control_of_file s.control.generation (image CONTROL_FILE)) s.control next)
        × (ok ≡ true → HasControl (walk_named s finished) after)
    stays = naming_stays s finished before after ok has.control may runs

    going : GoesOn before after
    going = goes_on asks before after ok has.control.kept runs

    names_next : NamesFiles next
    names_next = record { least = may.readable.least_file; most = may.readable.most_file; parity = may.readable.parity }

    -- while the slot is written all other files are as they were, and so is what either slot names
    still : (slot : ControlSlot) (from : ℕ) (rows : Rows) (records : List Redo) → NamesFiles slot
        → NamesRows slot from rows records before → (newer older : List Call) → after ≡ newer ++ older
        → length before ≤ length older → NamesRows slot from rows records older
    still slot from rows records files is newer older split late =
        named_still slot from rows records before older is
        (same slot.ckpt_file (λ at. absurd (omega (arith, at, files.least))))
        (λ position byte low below.
        kept_same before older slot.parity position byte
        (same (file_of slot.parity position)
        (λ at. absurd (omega (arith, at, (redo_file slot.parity position files.parity).0)))))
      where
        same : (file : ℕ) → file ≢ CONTROL_FILE → state_of older file ≡ state_of before file
        same file other =
            moments (λ moment. state_of moment file ≡ state_of before file) asks before after newer older ok
            (elsewhere_through file asks before (state_of before file)
            (slot_elsewhere file (files_of before CONTROL_FILE) CONTROL_FILE (place_of (1 - s.control_at))
            (drop 1 (control_bytes next)) (ne_eqb CONTROL_FILE file (λ at. other (sym at)))) refl)
            runs split late

    leaves : LeavesOnly after (length before)
        (λ image. RestoresRows least image s.control start redo
        ⊎ RestoresRows finished.epoch image next own kept)
    leaves newer older split late image left =
        let names_old = names s least start redo before has in
        elim (stays.0 newer older split late image left) [
          | inl one ↦ inl (named_restored s.control least start redo older image names_old
              (still s.control least start redo names_old has.named newer older split late) left one)
          | inr other ↦ inr (named_restored next finished.epoch own kept older image names_next
              (still next finished.epoch own kept names_next named newer older split late) left other)
        ]

    behind : ok ≡ true → HasRows (walk_named s finished) finished.epoch own kept after
    behind so =
        record {
          control = stays.1 so;
          named = still next finished.epoch own kept names_next named [] after refl going.1;
        }
