-- A save of the system slot leaves the rows.
use Rattle.std.proofs.Common.{◌≡◌, ◌≢◌, ◌∙◌, ◌≤◌, ℕ, ◌-◌, Bool, true, false, nat_le, List, [], ◌∷◌, ◌++◌, length}
use Rattle.std.proofs.Common.{refl, ap, sym, subst, inl, inr, arith}
use Rattle.std.specs.Prelude.{Some, if◌then◌else◌}
use Rattle.host_io.specs.Call.{Call, Lost, Synced, Tore, Wrote}
use Rattle.host_io.specs.DiskState.{FileState, settled, state_of}
use Rattle.host_io.specs.Image.{IsRecord}
use Rattle.redo_log.specs.Stored.{files_of}
use Rattle.sig_core.specs.declared.redo.Redo.{Redo}
use Rattle.sig_core.specs.Ring.{file_of}
use Rattle.sig_core.specs.Table.{Rows}
use Rattle.sysfile_core.specs.declared.place.TheConstants.{CONTROL_FILE, SYSTEM_FILE}
use Rattle.sysfile_core.specs.Reading.{control_at, control_of_file}
use Rattle.sysfile_core.specs.Runs.{Runs}
use Rattle.sysfile_core.proofs.RunLemmas.{moments}
use Rattle.sys_restart.proofs.ControlLemmas.{NamesFiles, in_use_names}
use Rattle.sys_restart.proofs.SameRows.{redo_file}
use Rattle.node_disk.specs.Laws.{HasControl}
use Rattle.node_disk.specs.Saving.{noted_system, system_calls}
use Rattle.node_disk.specs.Slots.{SlotsInUse}
use Rattle.node_disk.proofs.CallLemmas.{elsewhere_through, same_record}
use Rattle.node_disk.proofs.LawLemmas.{system_elsewhere}
use Rattle.node_restart.specs.Laws.{SystemSavesKeepRows}
use Rattle.node_restart.specs.Rows.{HasRows}
use Rattle.node_restart.proofs.NamedLemmas.{kept_same, named_still}

-- a record that keeps to the model, and is as long as another, or longer
abbrev pub GoesOn : List Call → List Call → Type 0
GoesOn calls after = IsRecord after × (length calls ≤ length after)

-- calls make such a record of another, whatever they come to
pub goes_on : (asks calls after : List Call) (ok : Bool) → IsRecord calls → Runs asks calls (Some after) ok
    → GoesOn calls after
goes_on [] calls after ok kept runs =
    subst (GoesOn calls) (sym (same_record after calls runs.0)) (kept, omega arith)
goes_on (Wrote file at bytes ∷ asks) calls after ok kept (inl (inl none, not_so)) =
    subst (GoesOn calls) (sym (same_record after calls none)) (kept, omega arith)
goes_on (Wrote file at bytes ∷ asks) calls after ok kept (inl (inr (piece, added), not_so)) =
    subst (GoesOn calls) (sym (same_record after (Tore file at bytes piece ∷ calls) added.grown))
    ((added.allowed, kept), omega arith)
goes_on (Synced file ∷ asks) calls after ok kept (inl (none, not_so)) =
    subst (GoesOn calls) (sym (same_record after calls none)) (kept, omega arith)
goes_on (Tore file at asked piece ∷ asks) calls after ok kept (inl (none, not_so)) = absurd none
goes_on (Lost files ∷ asks) calls after ok kept (inl (none, not_so)) = absurd none
goes_on (ask ∷ asks) calls after ok kept (inr (may, runs)) =
    let rest = goes_on asks (ask ∷ calls) after ok (may, kept) runs in (rest.0, omega (arith, rest.1))

-- it kept to the model at each moment before
pub older_kept : (newer older : List Call) → IsRecord (newer ++ older) → IsRecord older
older_kept [] older kept = kept
older_kept (call ∷ newer) older kept = older_kept newer older kept.1

-- the control slot stands where its file is as it was
pub control_still : (s : SlotsInUse) (calls moment : List Call) → IsRecord moment
    → state_of moment CONTROL_FILE ≡ state_of calls CONTROL_FILE → HasControl s calls → HasControl s moment
control_still s calls moment kept same has = record {
  kept = kept;
  clean = subst (λ (f : FileState). f ≡ settled f.bytes) (sym same) has.clean;
  place = has.place;
  stands = ap (λ (f : FileState). control_at s.control_at f.bytes) same ∙ has.stands;
  other = has.other;
  beside = ap (λ (f : FileState). control_at (1 - s.control_at) f.bytes) same ∙ has.beside;
  in_use = ap (λ (f : FileState). control_of_file s.control.generation f.bytes) same ∙ has.in_use;
}

-- the rows are named whatever the system slot is
with_system : (s : SlotsInUse) (epoch mask : ℕ) (saved : Bool) (least : ℕ) (start : Rows) (redo : List Redo)
    (calls : List Call)
    → HasRows s least start redo calls
    → HasRows (if saved then s else record s { system = noted_system s.system epoch mask; system_at = 1 - s.system_at })
    least start redo calls
with_system s epoch mask true least start redo calls has = has
with_system s epoch mask false least start redo calls has = record {
  control = record {
    kept = has.control.kept;
    clean = has.control.clean;
    place = has.control.place;
    stands = has.control.stands;
    other = has.control.other;
    beside = has.control.beside;
    in_use = has.control.in_use;
  };
  named = has.named;
}

pub system_keeps : SystemSavesKeepRows
system_keeps s epoch mask least start redo before after ok has runs = (
  at_each,
  with_system s epoch mask (nat_le epoch s.system.epoch) least start redo after (at_each [] after refl going.1),
)
  where
    asks : List Call
    asks = system_calls (files_of before SYSTEM_FILE) s epoch mask

    going : GoesOn before after
    going = goes_on asks before after ok has.control.kept runs

    names : NamesFiles s.control
    names = in_use_names s.control.generation (files_of before CONTROL_FILE) s.control has.control.in_use

    at_each : (newer older : List Call) → after ≡ newer ++ older → length before ≤ length older
        → HasRows s least start redo older
    at_each newer older split late = record {
      control = control_still s before older kept (same CONTROL_FILE (λ is. absurd (omega (arith, is)))) has.control;
      named = named_still s.control least start redo before older has.named
          (same s.control.ckpt_file (λ is. absurd (omega (arith, is, names.least))))
          (λ position byte low below.
          kept_same before older s.control.parity position byte
          (same (file_of s.control.parity position)
          (λ is. absurd (omega (arith, is, (redo_file s.control.parity position names.parity).0)))));
    }
      where
        kept : IsRecord older
        kept = older_kept newer older (subst IsRecord split going.0)

        same : (file : ℕ) → file ≢ SYSTEM_FILE → state_of older file ≡ state_of before file
        same file apart =
            moments (λ moment. state_of moment file ≡ state_of before file) asks before after newer older ok
            (elsewhere_through file asks before (state_of before file)
            (system_elsewhere s epoch mask (files_of before SYSTEM_FILE) file apart) refl)
            runs split late
