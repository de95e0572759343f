-- The rows of a control slot, and the records of its redo, depend on the files that it names alone.
use Rattle.std.proofs.Common.{◌≡◌, ◌∙◌, ℕ, zero, suc, ◌+◌, ◌-◌, ◌≤◌, ◌<◌, nat_lt, length, refl, ap, arith}
use Rattle.std.specs.Prelude.{Result, Ok, Err, slice_index}
use Rattle.sig_core.specs.Ring.{file_of, place_of}
use Rattle.sig_core.specs.Table.{Rows}
use Rattle.sig_core.specs.declared.fault.ReadFault.{ReadFault}
use Rattle.sig_core.specs.declared.slots.ControlSlot.{ControlSlot}
use Rattle.sys_restart.specs.Checkpoint.{rows_of_file}
use Rattle.sys_restart.specs.Files.{Files}
use Rattle.sys_restart.specs.Held.{newest_in, records_of}
use Rattle.sys_restart.specs.Redone.{byte_if, log_of, redone, redone_in}
use Rattle.sys_restart.specs.SlotRows.{rows_of_slot, with_redo}

-- redo lies in the files from 4 to 11
pub redo_file : (parity position : ℕ) → parity ≤ 1 → (4 ≤ file_of parity position) × (file_of parity position < 16)
redo_file parity position least = (omega arith, omega (arith, least))

module _ (one two : Files) (parity : ℕ) (same : (position : ℕ) → two (file_of parity position) ≡ one
    (file_of parity position)) where
  log_same : (from more : ℕ) → log_of two parity from more ≡ log_of one parity from more
  unfolding log_of
  log_same from zero = refl
  log_same from (suc more) =
      ap
      (λ bytes. byte_if (nat_lt (place_of from) (length bytes)) (slice_index bytes (place_of from))
      (log_of two parity (from + 1) more))
      (same from)
      ∙ ap
      (byte_if (nat_lt (place_of from) (length (one (file_of parity from))))
      (slice_index (one (file_of parity from)) (place_of from)))
      (log_same (from + 1) more)

  redone_same : (epoch : ℕ) (rows : Rows) (from count : ℕ)
      → redone epoch rows two parity from count ≡ redone epoch rows one parity from count
  unfolding redone
  redone_same epoch rows from count = ap (redone_in epoch rows parity from count) (log_same from count)

pub rows_same : (epoch : ℕ) (one two : Files) (slot : ControlSlot) → two slot.ckpt_file ≡ one slot.ckpt_file
    → ((position : ℕ) → two (file_of slot.parity position) ≡ one (file_of slot.parity position))
    → rows_of_slot epoch two slot ≡ rows_of_slot epoch one slot
rows_same epoch one two slot file redo =
    ap (λ bytes. with_redo epoch two slot (rows_of_file slot.ckpt_file slot.ckpt_size epoch bytes)) file
    ∙ by (rows_of_file slot.ckpt_file slot.ckpt_size epoch (one slot.ckpt_file))
  where
    by : (rows : Result Rows ReadFault) → with_redo epoch two slot rows ≡ with_redo epoch one slot rows
    by (Err fault) = refl
    by (Ok rows) =
        redone_same one two slot.parity redo epoch rows slot.redo_start (slot.redo_end - slot.redo_start)

pub records_same : (one two : Files) (slot : ControlSlot)
    → ((position : ℕ) → two (file_of slot.parity position) ≡ one (file_of slot.parity position))
    → records_of two slot ≡ records_of one slot
records_same one two slot redo =
    ap newest_in (log_same one two slot.parity redo slot.redo_start (slot.redo_end - slot.redo_start))
