-- Whatever comes of what a disk is to keep, its control file names the node that it named.
use Rattle.std.proofs.Common.{◌≡◌, ◌≢◌, ◌∙◌, ◌⊎◌, ◌+◌, ◌-◌, ◌≤◌, ℕ, Bool, true, false, nat_le, List, [], ◌++◌}
use Rattle.std.proofs.Common.{length, drop, refl, ap, sym, subst, arith, inl, inr, if◌then◌else◌}
use Rattle.std.specs.Prelude.{Some}
use Rattle.host_io.specs.Call.{Call}
use Rattle.host_io.specs.DiskState.{FileState, state_of}
use Rattle.host_io.specs.Image.{IsRecord}
use Rattle.redo_log.specs.Stored.{files_of}
use Rattle.sig_core.specs.declared.slots.ControlSlot.{ControlSlot}
use Rattle.sysfile_core.specs.declared.owner.TheConstants.{OWNER, OWNER_BYTES}
use Rattle.sysfile_core.specs.declared.place.TheConstants.{CONTROL_FILE}
use Rattle.sysfile_core.specs.Laws.{AreApart, IsWrite}
use Rattle.sysfile_core.specs.Owner.{named_by, owner_of}
use Rattle.sysfile_core.specs.Places.{IsKept, place_of}
use Rattle.sysfile_core.specs.Runs.{Runs}
use Rattle.sysfile_core.specs.Slots.{control_bytes}
use Rattle.sysfile_core.specs.Writing.{slot_calls}
use Rattle.sysfile_core.proofs.RunLemmas.{done}
use Rattle.sysfile_core.proofs.WriteLemmas.{other_is_kept}
use Rattle.sys_restart.proofs.MomentLemmas.{runs_record, runs_split}
use Rattle.sys_restart.proofs.NextLemmas.{control_size, next_file_is}
use Rattle.lqh_saver.specs.declared.stage.Todo.{Todo}
use Rattle.lqh_saver.specs.declared.stage.Todo.TheVariants as todo
use Rattle.node_disk.specs.Saving.{free_file, named_control, next_control, redo_calls, rows_calls, slot_behind}
use Rattle.node_disk.specs.Slots.{SlotsInUse}
use Rattle.node_disk.proofs.CallLemmas.{AreElsewhere, elsewhere_done, elsewhere_stays, same_record}
use Rattle.node_disk.proofs.LawLemmas.{checkpoints_leave, system_leaves}
use Rattle.node_disk.proofs.RedoLemmas.{not_control, redo_elsewhere}
use Rattle.disk_world.specs.Keeping.{DurableAt, Kept, NothingNew, OfCheckpoint, RowsUpTo, calls_of, redo_from}
use Rattle.disk_world.specs.Keeping.{todo_calls}
use Rattle.disk_laws.specs.Owners.{IsNamed}

module _ (node : ℕ) where
  -- so it is where the file is as it was
  named_as : (before after : List Call) → state_of after CONTROL_FILE ≡ state_of before CONTROL_FILE
      → IsNamed node before → IsNamed node after
  named_as before after same =
      subst
      (λ (s : FileState). IsKept s (place_of OWNER) (place_of OWNER + OWNER_BYTES) × (owner_of s.bytes ≡ Some node))
      (sym same)

  -- Calls on other files are made, and then a control slot is written at either place; or one of the calls failed.
  module _ (slot : ControlSlot) (which : ℕ) (low : which ≤ 1) (asks before after : List Call) (ok : Bool)
      (kept : IsRecord before) (elsewhere : AreElsewhere CONTROL_FILE asks) (named : IsNamed node before) where
    abbrev body : List ℕ
    body = drop 1 (control_bytes slot)

    abbrev slot_write : List Call
    slot_write = slot_calls (files_of before CONTROL_FILE) CONTROL_FILE (place_of which) body

    abbrev mid : List Call
    mid = done asks before

    mid_same : state_of mid CONTROL_FILE ≡ state_of before CONTROL_FILE
    mid_same = elsewhere_done CONTROL_FILE asks before elsewhere

    -- it ends before the owner's begins
    apart : AreApart (place_of which) (1 + length body) (place_of OWNER) OWNER_BYTES
    apart = inr (omega (arith, low, control_size slot))

    written_named : Runs asks before (Some mid) true → Runs slot_write mid (Some after) ok → IsNamed node after
    written_named first second =
        let write : IsWrite mid after ok CONTROL_FILE (place_of which) body =
        record {
          kept = runs_record asks before (Some mid) first kept;
          there = omega arith;
          some = omega (arith, control_size slot);
          runs =
              subst
              (λ (bytes : List ℕ). Runs (slot_calls bytes CONTROL_FILE (place_of which) body) mid (Some after) ok)
              (ap (λ (s : FileState). s.bytes) (sym mid_same))
              second;
        } in
        let was = named_as before mid mid_same named in
        let stands =
        other_is_kept mid after ok CONTROL_FILE (place_of which) body (place_of OWNER) OWNER_BYTES write apart
        (omega arith) was.0 in
        (stands.0, ap named_by stands.1 ∙ was.1)

    slot_named : Runs (asks ++ slot_write) before (Some after) ok → IsNamed node after
    slot_named runs = by (runs_split asks slot_write before (Some after) ok runs)
      where
        by : (Runs asks before (Some after) false × (ok ≡ false))
            ⊎ (Runs asks before (Some mid) true × Runs slot_write mid (Some after) ok)
            → IsNamed node after
        by (inl stopped) =
            named_as before after
            (elsewhere_stays CONTROL_FILE asks before after (Some after) false elsewhere stopped.0 refl) named
        by (inr made) = written_named made.0 made.1

  module _ (s : SlotsInUse) (before after : List Call) (ok : Bool) (kept : IsRecord before)
      (named : IsNamed node before) where
    nothing_named : Runs [] before (Some after) ok → IsNamed node after
    nothing_named none = subst (IsNamed node) (sym (same_record after before none.0)) named

    free : (which : ℕ) → 1 - which ≤ 1
    free which = omega arith

    not_free : CONTROL_FILE ≢ free_file s
    not_free is = absurd (omega (arith, is, (next_file_is (Some s.control)).0))

    -- of the rows
    rows_named : (epoch : ℕ) (bytes : List ℕ)
        → Runs (rows_calls (files_of before CONTROL_FILE) s epoch bytes) before (Some after) ok → IsNamed node after
    rows_named epoch bytes = by (nat_le epoch s.control.saved)
      where
        all : List Call
        all =
            slot_behind (files_of before CONTROL_FILE) s.control.redo_end bytes (1 - s.control_at)
            (next_control s epoch bytes)

        by : (saved : Bool) → Runs (if saved then [] else all) before (Some after) ok → IsNamed node after
        by true = nothing_named
        by false =
            slot_named (next_control s epoch bytes) (1 - s.control_at) (free s.control_at)
            (redo_calls s.control.parity s.control.redo_end bytes) before after ok kept
            (redo_elsewhere CONTROL_FILE s.control.parity s.control.redo_end bytes (not_control s.control.parity))
            named

    -- of a local checkpoint
    todo_named : (it : Todo) → Runs (todo_calls (files_of before CONTROL_FILE) s it) before (Some after) ok
        → IsNamed node after
    todo_named todo.Nothing runs = nothing_named runs
    todo_named (todo.Write piece) runs =
        named_as before after (checkpoints_leave.written s piece before after ok CONTROL_FILE runs not_free) named
    todo_named todo.Sync runs =
        named_as before after (checkpoints_leave.settled s before after ok CONTROL_FILE runs not_free) named
    todo_named (todo.Name finished) runs =
        slot_named (named_control s finished) (1 - s.control_at) (free s.control_at) [] before after ok kept tt named
        runs

    pub kept_named : (what : Kept) → Runs (calls_of (files_of before) s what) before (Some after) ok
        → IsNamed node after
    kept_named (RowsUpTo epoch redo) runs = rows_named epoch (redo_from redo s.control.redo_end) runs
    kept_named (OfCheckpoint it) runs = todo_named it runs
    kept_named (DurableAt epoch mask) runs =
        named_as before after
        (system_leaves s epoch mask before after ok CONTROL_FILE runs (λ same. absurd (omega (arith, same)))) named
    kept_named NothingNew runs = nothing_named runs
