-- A disk that is ready for a life has the rows of what was restored.
use Rattle.std.proofs.Common.{◌≡◌, ◌∙◌, ℕ, ◌+◌, ◌-◌, refl, ap, sym, subst, arith}
use Rattle.std.specs.Prelude.{Some, Result, Ok, Err}
use Rattle.redo_log.specs.Stored.{files_of}
use Rattle.sig_core.specs.declared.fault.ReadFault.{ReadFault}
use Rattle.sig_core.specs.declared.slots.ControlSlot.{ControlSlot}
use Rattle.sig_core.specs.Table.{Rows}
use Rattle.sys_restart.specs.Calls.{rows_of_node}
use Rattle.sys_restart.specs.Checkpoint.{rows_of_file}
use Rattle.sys_restart.specs.Files.{Files}
use Rattle.sys_restart.specs.Prepared.{HasSlot}
use Rattle.sys_restart.specs.Redone.{log_of, records_in, redone}
use Rattle.sys_restart.specs.SlotRows.{with_redo}
use Rattle.sys_restart.proofs.AlikeLemmas.{no_answer, same_answer, same_some}
use Rattle.sys_restart.proofs.ControlLemmas.{NamesFiles, in_use_names}
use Rattle.sysfile_core.specs.declared.place.TheConstants.{CONTROL_FILE}
use Rattle.node_disk.specs.Found.{slots_in}
use Rattle.node_disk.specs.Slots.{SlotsInUse}
use Rattle.node_disk.proofs.StartLaw.{are_in_use, ready_has}
use Rattle.node_restart.specs.Laws.{ReadyDisksHaveRows}

-- where a slot has no redo its rows are those of its checkpoint
none_redone : (epoch : ℕ) (rows : Rows) (files : Files) (parity from count : ℕ) → count ≡ 0
    → redone epoch rows files parity from count ≡ Ok rows
unfolding redone log_of records_in
none_redone epoch rows files parity from count none =
    ap (redone epoch rows files parity from) none

checkpoint_has : (epoch : ℕ) (files : Files) (slot : ControlSlot) (rows : Rows) (read : Result Rows ReadFault)
    → slot.redo_end - slot.redo_start ≡ 0 → with_redo epoch files slot read ≡ Ok rows → read ≡ Ok rows
checkpoint_has epoch files slot rows (Err fault) none is = absurd (no_answer fault rows _ refl is)
checkpoint_has epoch files slot rows (Ok found) none is =
    sym (none_redone epoch found files slot.parity slot.redo_start (slot.redo_end - slot.redo_start) none) ∙ is

pub ready_rows : ReadyDisksHaveRows
ready_rows shape node r calls s kept ready is = record {
  control = (are_in_use (r.generation + 1) calls s kept ready.0.0 is).0;
  named = record {
    clean = ready.0.0 s.control.ckpt_file (omega (arith, names.most));
    checkpoint = checkpoint_has r.epoch (files_of calls) s.control (rows_of_node shape node r)
        (rows_of_file s.control.ckpt_file s.control.ckpt_size r.epoch (files_of calls s.control.ckpt_file))
        (omega (arith, has.end)) has.has_rows;
    records = tt;
    ends = omega (arith, has.start, has.end);
    kept = λ behind below. absurd (omega (arith, below));
  };
}
  where
    found : (one : SlotsInUse)
        × ((slots_in (r.generation + 1) (files_of calls) ≡ Ok (Some one))
        × HasSlot shape node r (files_of calls) one.control)
    found = let has = ready_has shape node r calls ready in (has.0, (has.1.0, has.1.2))

    same : found.0 ≡ s
    same = same_some found.0 s _ refl (same_answer (Some found.0) (Some s) _ found.1.0 is)

    has : HasSlot shape node r (files_of calls) s.control
    has = subst (λ (one : SlotsInUse). HasSlot shape node r (files_of calls) one.control) same found.1.1

    names : NamesFiles s.control
    names = in_use_names (r.generation + 1) (files_of calls CONTROL_FILE) s.control has.in_use
