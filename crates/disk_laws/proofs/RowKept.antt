-- On the disk of a member's node: it is asked to keep what there is of the host of its rows, and what it comes to.
use Rattle.std.proofs.Common.{◌≡◌, ◌≤◌, ◌<◌, ℕ, ◌-◌, ◌^◌, Bool, true, false, nat_le, List, [], ◌∷◌, length}
use Rattle.std.proofs.Common.{refl, ap, sym, subst, inl, inr, arith, if◌then◌else◌}
use Rattle.std.specs.List.{list_any}
use Rattle.std.specs.Prelude.{Option, Some}
use Rattle.host_io.specs.Call.{Call}
use Rattle.host_io.specs.DiskState.{FileState, state_of}
use Rattle.host_io.specs.Image.{IsImage, IsRecord}
use Rattle.redo_log.specs.Stored.{files_of}
use Rattle.run_theory.specs.Lists.{IsIn}
use Rattle.run_theory.proofs.Pasts.{past_more, past_self}
use Rattle.sig_core.specs.declared.member.Member.{Member}
use Rattle.sig_core.specs.declared.piece.Piece.{Piece}
use Rattle.sig_core.specs.declared.slots.ControlSlot.{ControlSlot}
use Rattle.sig_core.specs.declared.slots.SystemSlot.{SystemSlot}
use Rattle.sig_core.specs.declared.walk.Finished.{Finished}
use Rattle.sig_core.specs.Journal.{OutletState}
use Rattle.sig_core.specs.Rows.{RowsState}
use Rattle.sig_core.specs.Table.{Rows}
use Rattle.sig_core.specs.Walk.{WalkState, next_piece, stepped}
use Rattle.sysfile_core.specs.declared.place.TheConstants.{CONTROL_FILE, SYSTEM_FILE}
use Rattle.sysfile_core.specs.Runs.{Runs}
use Rattle.sys_restart.specs.Files.{Files}
use Rattle.sys_restart.proofs.ControlLemmas.{NamesFiles, in_use_names}
use Rattle.sys_restart.proofs.NextLemmas.{next_file_is}
use Rattle.sys_restart.proofs.SameRows.{redo_file}
use Rattle.lqh_saver.specs.declared.stage.Stage.{Stage}
use Rattle.lqh_saver.specs.declared.stage.Stage.TheVariants.{Walked, Walking}
use Rattle.lqh_saver.specs.declared.stage.Todo.TheVariants as todo
use Rattle.local_ckpt.specs.Laws.{pieces_bytes}
use Rattle.node_disk.specs.Saving.{free_file, next_control, rows_calls, settle_calls, walk_calls}
use Rattle.node_disk.specs.Slots.{SlotsInUse}
use Rattle.node_disk.proofs.LawLemmas.{checkpoints_leave, rows_leave}
use Rattle.node_restart.specs.Rows.{HasRows}
use Rattle.node_restart.proofs.NamingLemmas.{walks_keep}
use Rattle.node_restart.proofs.RestoredLaw.{restored}
use Rattle.world_core.specs.Start.{NobodyStarts, Start, made}
use Rattle.world_core.specs.Steps.{HostStep}
use Rattle.world_views.specs.Machine.{has_stopped, stops_by}
use Rattle.request_laws.specs.Blocks.{rows_after, saver_after}
use Rattle.disk_world.specs.Keeping.{Kept, OfCheckpoint, RowsUpTo, redo_from, slots_after}
use Rattle.journal_laws.specs.Journal.{lqh_after}
use Rattle.journal_laws.specs.Saver.{written, written_by}
use Rattle.journal_laws.specs.Walks.{pieces_if}
use Rattle.disk_laws.specs.Found.{HasSavedRows}
use Rattle.disk_laws.specs.Laws.{AreSavable}
use Rattle.disk_laws.specs.Noted.{is_disk_stop, kept_if, kept_part, without_newest}
use Rattle.disk_laws.specs.OnDisk.{HasLastRows, HasWalked, HasWritten, IsOnDisk, KeepsNoted, LeavesNoted}
use Rattle.disk_laws.proofs.ImageLemmas.{AreOthersLeft, joined, others_left, others_restore}
use Rattle.disk_laws.proofs.KeptParts.{without_is_past}
use Rattle.disk_laws.proofs.PiecesWritten.{StandsInFront, piece_written, sync_reads, sync_settles, walked_at}
use Rattle.disk_laws.proofs.PiecesWritten.{walked_still, written_still}
use Rattle.disk_laws.proofs.RecordLemmas.{TellsRecord, runs_tell}
use Rattle.disk_laws.proofs.RowsSaved.{AreSaved, GoesOn, found, last_found, last_with, others_restored, rows_go}
use Rattle.disk_laws.proofs.SavedLemmas.{saved_along}
use Rattle.disk_laws.proofs.SystemSaved.{noted_beside}

-- a disk tells a record, and has what there was to keep of two logs
pub record AreOnDisk (start : Start) (member : Member) (before : Rows) (first : SystemSlot)
    (rows_log noted_log : List HostStep) (s : SlotsInUse) (told : Option (List Call)) : Type 0 where
  pub calls : List Call
  pub is : told ≡ Some calls
  pub on : IsOnDisk start member before first rows_log noted_log s calls

-- What it comes to that it was asked to keep something of the host of the rows: it has that, or the host stops.
pub record RowsAreKept (start : Start) (member : Member) (before : Rows) (first : SystemSlot)
    (now noted_log : List HostStep) (s : SlotsInUse) (told : Option (List Call)) (ok : Bool) (kept : Kept) : Type 0
  where
    pub done : ok ≡ true → AreOnDisk start member before first now noted_log (slots_after s kept) told
    pub failed : ok ≡ false → (stop : HostStep) → list_any is_disk_stop stop.step.marks ≡ true
        → stops_by stop.step.marks ≡ true → AreOnDisk start member before first (stop ∷ now) noted_log s told

module _ (start : Start) (member : Member) (there : IsIn member (made start)) (before : Rows) (first : SystemSlot)
    (now noted_log : List HostStep) (s : SlotsInUse) (calls : List Call)
    (noted : KeepsNoted start member before first noted_log s calls) (told : Option (List Call)) (ok : Bool) where
  abbrev epoch : ℕ
  epoch = (rows_after start member now).saved

  abbrev outlet : OutletState
  outlet = (lqh_after start member now).outlet

  abbrev stage : Stage
  stage = (saver_after start member now).stage

  abbrev KeptSo : Kept → Type 0
  KeptSo kept = RowsAreKept start member before first now noted_log s told ok kept

  -- what is left of the system slot doesn't depend on other files
  leaves_still : (after : List Call) → IsRecord after → state_of after SYSTEM_FILE ≡ state_of calls SYSTEM_FILE
      → LeavesNoted start member before first noted_log calls → LeavesNoted start member before first noted_log after
  leaves_still after kept same leaves = record {
    kept = kept;
    stopped = leaves.stopped;
    leaves = λ image own.
        leaves.leaves image (subst (λ (f : FileState). IsImage f (image SYSTEM_FILE)) same own);
  }

  -- nor on the control slot
  pub noted_still : (after : List Call) → IsRecord after → state_of after SYSTEM_FILE ≡ state_of calls SYSTEM_FILE
      → (none : Bool) (control : ControlSlot) (at : ℕ)
      → KeepsNoted start member before first noted_log
      (if none then s else record s { control = control; control_at = at }) after
  noted_still after kept same none control at = by noted
    where
      by : KeepsNoted start member before first noted_log s calls
          → KeepsNoted start member before first noted_log
          (if none then s else record s { control = control; control_at = at }) after
      by (inl all) =
          inl (noted_beside start member before first noted_log s control at none calls after kept same all)
      by (inr leaves) = inr (leaves_still after kept same leaves)

  -- a call failed, and the host stops: whatever is left of the other files is what there is to be found
  pub stopped_on : (tells : TellsRecord calls told) → state_of tells.calls SYSTEM_FILE ≡ state_of calls SYSTEM_FILE
      → (stop : HostStep) → stops_by stop.step.marks ≡ true
      → ((image : Files) → AreOthersLeft tells.calls image
      → HasSavedRows start member before first.generation (stop ∷ now) image)
      → AreOnDisk start member before first (stop ∷ now) noted_log s told
  stopped_on tells same stop stops leaves = record {
    calls = tells.calls;
    is = tells.is;
    on = record {
      rows = inr (record { kept = tells.kept; stopped = stops; leaves = leaves });
      noted = noted_still tells.calls tells.kept same true s.control s.control_at;
    };
  }

  -- what was noted as saved is saved
  module _ (nobody : NobodyStarts start) (log : List HostStep)
      (has : HasLastRows start member before first log s calls)
      (on : GoesOn start member before first log now s calls has) (can : AreSavable start member before now)
      (late : 2 ^ 32 ≤ start.epoch)
      (walked : has_stopped now ≡ false → HasWalked start member before first stage now s calls)
      (least : s.control.saved < epoch → (stop : HostStep) → list_any is_disk_stop stop.step.marks ≡ true
      → (rows_after start member (kept_part (stop ∷ now))).saved ≤ s.control.saved)
      (runs : Runs (rows_calls (files_of calls CONTROL_FILE) s epoch (redo_from outlet s.control.redo_end)) calls told
      ok) where
    abbrev bytes : List ℕ
    bytes = redo_from outlet s.control.redo_end

    tells : TellsRecord calls told
    tells =
        runs_tell (rows_calls (files_of calls CONTROL_FILE) s epoch bytes) calls told ok has.rows.control.kept runs

    made_so : Runs (rows_calls (files_of calls CONTROL_FILE) s epoch bytes) calls (Some tells.calls) ok
    made_so =
        subst (λ o. Runs (rows_calls (files_of calls CONTROL_FILE) s epoch bytes) calls o ok) tells.is runs

    names : NamesFiles s.control
    names = in_use_names s.control.generation (files_of calls CONTROL_FILE) s.control has.rows.control.in_use

    same_file : (file : ℕ) → file < 4 → (file ≡ CONTROL_FILE → ⊥) → state_of tells.calls file ≡ state_of calls file
    same_file file low not_control =
        rows_leave s epoch bytes calls tells.calls ok file made_so not_control
        (λ position is.
        absurd (omega (arith, is, low, (redo_file s.control.parity position names.parity).0)))

    same_system : state_of tells.calls SYSTEM_FILE ≡ state_of calls SYSTEM_FILE
    same_system = same_file SYSTEM_FILE (omega arith) (λ is. absurd (omega (arith, is)))

    same_free : state_of tells.calls (free_file s) ≡ state_of calls (free_file s)
    same_free =
        let free = next_file_is (Some s.control) in
        same_file (free_file s) (omega (arith, free.1)) (λ is. absurd (omega (arith, is, free.0)))

    saved : AreSaved start member there before first log now s calls has on can late tells.calls ok
    saved = rows_go start member there before first log now s calls has on can late nobody tells.calls tells.grows ok
        made_so

    walked_here : has_stopped now ≡ false → HasWalked start member before first stage now s tells.calls
    walked_here goes =
        walked_still start member before first now s calls tells.calls stage same_free (walked goes)

    walked_then : (none : Bool) → has_stopped now ≡ false
        → HasWalked start member before first stage now
        (if none then s else record s { control = next_control s epoch bytes; control_at = 1 - s.control_at })
        tells.calls
    walked_then true goes = walked_here goes
    walked_then false goes =
        walked_at start member before first now s
        (record s { control = next_control s epoch bytes; control_at = 1 - s.control_at }) tells.calls stage refl
        (walked_here goes)

    leaves : ok ≡ false → (stop : HostStep) → list_any is_disk_stop stop.step.marks ≡ true → (image : Files)
        → AreOthersLeft tells.calls image
        → HasSavedRows start member before first.generation (stop ∷ now) image
    leaves not_so stop failed image left =
        found start member there before first log now s calls has on can late (stop ∷ now)
        (past_more stop (past_self now)) (least (saved.later not_so) stop failed) image
        (others_restored start member there before first log now s calls has on can late (files_of tells.calls) image
        (saved.failed not_so (joined (files_of tells.calls) image) (others_left tells.calls image tells.kept left)))

    pub saves_kept : KeptSo (RowsUpTo epoch outlet)
    saves_kept = record {
      done = λ so. record {
        calls = tells.calls;
        is = tells.is;
        on = record {
          rows = inl (record { last = saved.done so; walked = walked_then (nat_le epoch s.control.saved) });
          noted = noted_still tells.calls tells.kept same_system (nat_le epoch s.control.saved)
              (next_control s epoch bytes) (1 - s.control_at);
        };
      };
      failed = λ not_so stop failed stops. stopped_on tells same_system stop stops (leaves not_so stop failed);
    }

  -- Calls that leave the rows which were saved last, and the slots: they go on with what was written of a checkpoint.
  module _ (nobody : NobodyStarts start) (last : HasLastRows start member before first now s calls) (kept : Kept)
      (same : slots_after s kept ≡ s)
      (tells : TellsRecord calls told) (rows : HasRows s last.least last.base last.redo tells.calls)
      (same_system : state_of tells.calls SYSTEM_FILE ≡ state_of calls SYSTEM_FILE)
      (walked : ok ≡ true → HasWalked start member before first stage now s tells.calls) where
    last_then : HasLastRows start member before first now s tells.calls
    last_then = last_with start member before first now s calls tells.calls s.system s.system_at last rows

    left_least : (stop : HostStep) → list_any is_disk_stop stop.step.marks ≡ true
        → (rows_after start member (kept_part (stop ∷ now))).saved ≤ s.control.saved
    left_least stop failed =
        let rises = saved_along start nobody member there (without_newest now) now (without_is_past now) in
        let same : (rows_after start member (kept_part (stop ∷ now))).saved
        ≡ (rows_after start member (without_newest now)).saved =
        ap (λ (b : Bool). (rows_after start member (kept_if stop now b)).saved) failed in
        omega (arith, same, rises, last.latest)

    left_leaves : (stop : HostStep) → list_any is_disk_stop stop.step.marks ≡ true → (image : Files)
        → AreOthersLeft tells.calls image
        → HasSavedRows start member before first.generation (stop ∷ now) image
    left_leaves stop failed image left =
        last_found start member before first now s tells.calls last_then (stop ∷ now)
        (past_more stop (past_self now)) (left_least stop failed) image
        (others_restore last_then.least (files_of tells.calls) image s.control last_then.base last_then.redo
        (restored s last_then.least last_then.base last_then.redo tells.calls (joined (files_of tells.calls) image)
        last_then.rows
        (others_left tells.calls image tells.kept left)))

    pub left_kept : KeptSo kept
    left_kept = record {
      done = λ so.
          subst (λ (used : SlotsInUse). AreOnDisk start member before first now noted_log used told) (sym same)
          (record {
            calls = tells.calls;
            is = tells.is;
            on = record {
              rows = inl (record { last = last_then; walked = λ goes. walked so });
              noted = noted_still tells.calls tells.kept same_system true s.control s.control_at;
            };
          });
      failed = λ not_so stop failed stops. stopped_on tells same_system stop stops (left_leaves stop failed);
    }

  -- a piece of a checkpoint is written
  module _ (nobody : NobodyStarts start) (last : HasLastRows start member before first now s calls) (rows : RowsState)
      (walk : WalkState) (to : ℕ) (old : List Piece) (stage_is : stage ≡ Walking (stepped rows walk) to)
      (all : written start member now ≡ written_by (todo.Write (next_piece rows walk)) old)
      (size : length (pieces_bytes (pieces_if walk.size old)) ≡ walk.size)
      (front : StandsInFront (pieces_bytes (pieces_if walk.size old)) (files_of calls (free_file s)))
      (runs : Runs (walk_calls s (next_piece rows walk)) calls told ok) where
    abbrev piece : Piece
    piece = next_piece rows walk

    piece_tells : TellsRecord calls told
    piece_tells = runs_tell (walk_calls s piece) calls told ok last.rows.control.kept runs

    piece_made : Runs (walk_calls s piece) calls (Some piece_tells.calls) ok
    piece_made = subst (λ o. Runs (walk_calls s piece) calls o ok) piece_tells.is runs

    piece_walked : ok ≡ true → HasWalked start member before first stage now s piece_tells.calls
    piece_walked so =
        subst (λ at. HasWalked start member before first at now s piece_tells.calls) (sym stage_is)
        (piece_written start member before first now s calls piece_tells.calls rows walk old all size
        (subst (λ (b : Bool). Runs (walk_calls s piece) calls (Some piece_tells.calls) b) so piece_made) front)

    pub piece_kept : KeptSo (OfCheckpoint (todo.Write piece))
    piece_kept =
        left_kept nobody last (OfCheckpoint (todo.Write piece)) refl piece_tells
        (walks_keep.written s piece last.least last.base last.redo calls piece_tells.calls ok last.rows piece_made []
        piece_tells.calls refl
        piece_tells.grows)
        (checkpoints_leave.written s piece calls piece_tells.calls ok SYSTEM_FILE piece_made
        (λ is. absurd (omega (arith, is, (next_file_is (Some s.control)).0))))
        piece_walked

  -- it is synced
  module _ (nobody : NobodyStarts start) (last : HasLastRows start member before first now s calls)
      (finished : Finished) (end : ℕ)
      (stage_is : stage ≡ Walked finished end) (has : HasWritten start member before first finished.size now s calls)
      (runs : Runs (settle_calls s) calls told ok) where
    sync_tells : TellsRecord calls told
    sync_tells = runs_tell (settle_calls s) calls told ok last.rows.control.kept runs

    sync_made : Runs (settle_calls s) calls (Some sync_tells.calls) ok
    sync_made = subst (λ o. Runs (settle_calls s) calls o ok) sync_tells.is runs

    sync_walked : ok ≡ true → HasWalked start member before first stage now s sync_tells.calls
    sync_walked so =
        let all : Runs (settle_calls s) calls (Some sync_tells.calls) true =
        subst (λ (b : Bool). Runs (settle_calls s) calls (Some sync_tells.calls) b) so sync_made in
        subst (λ at. HasWalked start member before first at now s sync_tells.calls) (sym stage_is) (
          written_still start member before first now s calls sync_tells.calls finished.size
              (sync_reads s calls sync_tells.calls all) has,
          sync_settles s calls sync_tells.calls all,
        )

    pub sync_kept : KeptSo (OfCheckpoint todo.Sync)
    sync_kept =
        left_kept nobody last (OfCheckpoint todo.Sync) refl sync_tells
        (walks_keep.settled s last.least last.base last.redo calls sync_tells.calls ok last.rows sync_made []
        sync_tells.calls refl sync_tells.grows)
        (checkpoints_leave.settled s calls sync_tells.calls ok SYSTEM_FILE sync_made
        (λ is. absurd (omega (arith, is, (next_file_is (Some s.control)).0))))
        sync_walked
