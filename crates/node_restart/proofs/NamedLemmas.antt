-- The rows that a control slot names: what a crash leaves of them, and when they stay.
use Rattle.std.proofs.Common.{◌≡◌, ◌∙◌, ◌≤◌, ◌<◌, ℕ, ◌+◌, ◌-◌, List, [], length, refl, ap, sym, subst}
use Rattle.std.proofs.Common.{append-nil, arith}
use Rattle.std.specs.List.{list_all}
use Rattle.std.specs.Prelude.{true, Some, Ok, slice_index}
use Rattle.host_io.specs.Call.{Call}
use Rattle.host_io.specs.DiskState.{FileState, settled, state_of}
use Rattle.host_io.specs.Image.{IsLeft}
use Rattle.redo_format.specs.declared.fault.FormatFault.TheVariants.{NotRecord}
use Rattle.redo_log.specs.Replaying.{IsReplayed, log_bytes, replayed}
use Rattle.redo_log.specs.Stored.{AreStored, files_of}
use Rattle.redo_log.specs.StoredLaws.{IsSynced}
use Rattle.redo_log.proofs.PieceLemmas.{synced_stay}
use Rattle.sig_core.specs.declared.redo.Redo.{Redo}
use Rattle.sig_core.specs.declared.slots.ControlSlot.{ControlSlot}
use Rattle.sig_core.specs.Ring.{file_of, place_of}
use Rattle.sig_core.specs.Table.{Rows}
use Rattle.sysfile_core.specs.declared.place.TheConstants.{CONTROL_FILE}
use Rattle.sysfile_core.specs.Reading.{control_of_file}
use Rattle.sys_restart.specs.Checkpoint.{rows_of_file}
use Rattle.sys_restart.specs.Files.{Files}
use Rattle.sys_restart.specs.Held.{newest_in, records_of}
use Rattle.sys_restart.specs.Redone.{Decoded, log_of, redone}
use Rattle.sys_restart.specs.SlotRows.{rows_of_slot, with_redo}
use Rattle.sys_restart.proofs.ControlLemmas.{NamesFiles}
use Rattle.sys_restart.proofs.RedoneLemmas.{log_is, none_in_none, read_as, redone_reads}
use Rattle.sys_restart.proofs.StandsLemmas.{left_as}
use Rattle.node_disk.specs.RedoLaws.{IsKept}
use Rattle.node_restart.specs.Rows.{NamesRows, RestoresRows}
use Rattle.node_restart.proofs.CheckpointLemmas.{file_later}

-- What a crash may leave of a disk on which a slot names rows.
module _ (slot : ControlSlot) (least : ℕ) (start : Rows) (redo : List Redo) (calls : List Call) (image : Files)
    (names : NamesFiles slot) (named : NamesRows slot least start redo calls) (left : IsLeft calls image) where
  abbrev bytes : List ℕ
  bytes = log_bytes redo

  checkpoint : image slot.ckpt_file ≡ files_of calls slot.ckpt_file
  checkpoint =
      left_as calls image slot.ckpt_file (files_of calls slot.ckpt_file) left (omega (arith, names.most)) named.clean

  count : slot.redo_end - slot.redo_start ≡ length bytes
  count = omega (arith, named.ends)

  stored : AreStored image slot.parity slot.redo_start (length bytes) bytes
  stored = record {
    each = synced_stay calls slot.parity slot.redo_start bytes image names.parity
        (λ behind below. (named.kept behind below).synced) (λ behind below. (named.kept behind below).stored) left;
    most = omega arith;
    all = λ few. absurd (omega (arith, few));
  }

  replay : (epoch : ℕ) → IsReplayed epoch start bytes (replayed epoch start redo) redo []
  replay epoch = record { are = named.records; split = sym (append-nil bytes); made = refl }

  -- it has the rows, up to any epoch from the least on
  rows : (epoch : ℕ) → least ≤ epoch → rows_of_slot epoch image slot ≡ Ok (replayed epoch start redo)
  rows epoch up =
      ap (λ file. with_redo epoch image slot (rows_of_file slot.ckpt_file slot.ckpt_size epoch file)) checkpoint
      ∙ ap (with_redo epoch image slot)
      (file_later least epoch up slot.ckpt_file slot.ckpt_size (files_of calls slot.ckpt_file) start named.checkpoint)
      ∙ ap (redone epoch start image slot.parity slot.redo_start) count
      ∙ redone_reads epoch start image slot.parity slot.redo_start (length bytes) (replayed epoch start redo) (Ok tt)
      (bytes, (stored, refl, (redo, replay epoch)))

  -- and the records
  records : records_of image slot ≡ redo
  records =
      ap (λ many. newest_in (log_of image slot.parity slot.redo_start many)) count
      ∙ ap newest_in (log_is image slot.parity slot.redo_start (length bytes) bytes stored)
      ∙ ap (λ (d : Decoded). d.newest)
      (read_as least start (replayed least start redo) bytes redo [] (NotRecord 0) (replay least) none_in_none)

  -- so these are restored where the slot is in use
  pub named_restored : control_of_file slot.generation (image CONTROL_FILE) ≡ Ok (Some slot)
      → RestoresRows least image slot start redo
  named_restored in_use = (
    in_use,
    rows,
    λ test all. subst (λ found. list_all test found ≡ true) (sym records) all,
  )

-- a byte of the redo is kept where its file is as it was
pub kept_same : (calls moment : List Call) (parity position byte : ℕ)
    → state_of moment (file_of parity position) ≡ state_of calls (file_of parity position)
    → IsKept calls parity position byte → IsKept moment parity position byte
kept_same calls moment parity position byte same is = record {
  stored = record {
    there = subst (λ (s : FileState). place_of position < length s.bytes) (sym same) is.stored.there;
    same = subst (λ (s : FileState). byte ≡ slice_index s.bytes (place_of position)) (sym same) is.stored.same;
  };
  synced = subst (λ (s : FileState). IsSynced s (place_of position)) (sym same) is.synced;
}

-- a slot names the rows as long as its checkpoint is as it was and its redo is kept
pub named_still : (slot : ControlSlot) (least : ℕ) (start : Rows) (redo : List Redo) (calls moment : List Call)
    → NamesRows slot least start redo calls → state_of moment slot.ckpt_file ≡ state_of calls slot.ckpt_file
    → ((position byte : ℕ) → slot.redo_start ≤ position → position < slot.redo_end
    → IsKept calls slot.parity position byte → IsKept moment slot.parity position byte)
    → NamesRows slot least start redo moment
named_still slot least start redo calls moment named same keeps = record {
  clean = subst (λ (s : FileState). s ≡ settled s.bytes) (sym same) named.clean;
  checkpoint = ap (λ (s : FileState). rows_of_file slot.ckpt_file slot.ckpt_size least s.bytes) same
      ∙ named.checkpoint;
  records = named.records;
  ends = named.ends;
  kept = λ behind below.
      keeps (slot.redo_start + behind) (slice_index (log_bytes redo) behind) (omega arith)
      (omega (arith, named.ends, below)) (named.kept behind below);
}
