-- What a disk keeps of a host that has rows.
use Rattle.std.proofs.Common.{◌≡◌, ◌∙◌, ℕ, Bool, true, false, List, refl, ap, sym, subst}
use Rattle.std.specs.Prelude.{Option, Some, OnOk, Result, Ok, Err}
use Rattle.host_io.specs.Call.{Call}
use Rattle.node_disk.specs.Saving.{name_calls, rows_calls, rows_saved, settle_calls, walk_calls, walk_named}
use Rattle.node_disk.specs.Slots.{SlotsInUse}
use Rattle.node_views.specs.declared.host_body.HostBody.{HostBody}
use Rattle.node_views.specs.Saving.{outlet_of, saved_by}
use Rattle.redo_log.specs.LogState.{LogState, bytes_from, outlet_in}
use Rattle.redo_log.specs.Stored.{files_of}
use Rattle.sig_core.specs.declared.piece.Piece.{Piece}
use Rattle.sig_core.specs.declared.signal.Signal.{Signal}
use Rattle.sig_core.specs.declared.walk.Finished.{Finished}
use Rattle.sysfile_core.specs.declared.place.TheConstants.{CONTROL_FILE}
use Rattle.sysfile_core.specs.Runs.{Runs}
use Rattle.lqh_saver.specs.declared.stage.Todo.{Todo}
use Rattle.lqh_saver.specs.declared.stage.Todo.TheVariants as todo
use Rattle.disk_world.specs.Keeping.{Kept, NothingNew, OfCheckpoint, RowsUpTo, calls_of, durable_by, durable_if}
use Rattle.disk_world.specs.Keeping.{kept_beside, kept_of, kept_unless, redo_from, slots_after, todo_in}

-- what no signal says isn't kept, whether or not it went on to the blocks
pub unsaid : (goes : Bool) (x : Signal) → durable_by x.body ≡ NothingNew → durable_if goes x ≡ NothingNew
unsaid true x none = none
unsaid false x none = refl

redo_is : (log : LogState) (at : ℕ) → bytes_from log at ≡ redo_from (outlet_in log) at
unfolding bytes_from
redo_is log at = refl

-- what is kept, where this is to be done of a local checkpoint
pub done_kept : (s : HostBody) (log : LogState) (last : Option Signal) (it : Todo)
    → outlet_of s.parts ≡ Some (outlet_in log) → todo_in s last ≡ it
    → kept_unless (saved_by s.parts) (outlet_in log) it ≡ kept_of s last
done_kept s log last it is done =
    sym (ap (λ found. kept_beside found s last) is ∙ ap (kept_unless (saved_by s.parts) (outlet_in log)) done)

module _ (s : HostBody) (log : LogState) (last : Option Signal) (is : outlet_of s.parts ≡ Some (outlet_in log))
    (none : todo_in s last ≡ todo.Nothing) where
  rows_kept : RowsUpTo (saved_by s.parts) (outlet_in log) ≡ kept_of s last
  rows_kept = done_kept s log last todo.Nothing is none

  pub rows_run : (slots : SlotsInUse) (epoch : ℕ) (calls : List Call) (told : Option (List Call)) (ok : Bool)
      → epoch ≡ saved_by s.parts
      → Runs (rows_calls (files_of calls CONTROL_FILE) slots epoch (bytes_from log slots.control.redo_end)) calls told
      ok
      → Runs (calls_of (files_of calls) slots (kept_of s last)) calls told ok
  rows_run slots epoch calls told ok saved runs =
      subst (λ (kept : Kept). Runs (calls_of (files_of calls) slots kept) calls told ok) rows_kept
      (subst (λ (at : ℕ). Runs (rows_calls (files_of calls CONTROL_FILE) slots at
      (redo_from (outlet_in log) slots.control.redo_end)) calls told ok) saved
      (subst (λ bytes. Runs (rows_calls (files_of calls CONTROL_FILE) slots epoch bytes) calls told ok)
      (redo_is log slots.control.redo_end) runs))

  pub rows_used : {E : Type 0} (result : Result (Unit {0}) E) (slots new : SlotsInUse) (epoch : ℕ)
      → epoch ≡ saved_by s.parts
      → OnOk result (new ≡ rows_saved slots epoch (bytes_from log slots.control.redo_end))
      → OnOk result (new ≡ slots_after slots (kept_of s last))
  rows_used (Ok done) slots new epoch saved same =
      same ∙ ap (λ bytes. rows_saved slots epoch bytes) (redo_is log slots.control.redo_end)
      ∙ ap (λ (at : ℕ). rows_saved slots at (redo_from (outlet_in log) slots.control.redo_end)) saved
      ∙ ap (λ (kept : Kept). slots_after slots kept) rows_kept
  rows_used (Err fault) slots new epoch saved same = tt

-- So of what is done of a local checkpoint: a piece is written, the file is synced, or the checkpoint is named.
module _ (s : HostBody) (log : LogState) (last : Option Signal) (slots : SlotsInUse)
    (is : outlet_of s.parts ≡ Some (outlet_in log)) where
  done_runs : (it : Todo) (kept : Kept) → kept_unless (saved_by s.parts) (outlet_in log) it ≡ kept
      → todo_in s last ≡ it → (calls : List Call) (told : Option (List Call)) (ok : Bool)
      → Runs (calls_of (files_of calls) slots kept) calls told ok
      → Runs (calls_of (files_of calls) slots (kept_of s last)) calls told ok
  done_runs it kept same done calls told ok =
      subst (λ (kept : Kept). Runs (calls_of (files_of calls) slots kept) calls told ok)
      (sym same ∙ done_kept s log last it is done)

  done_used : (it : Todo) → todo_in s last ≡ it
      → slots_after slots (kept_unless (saved_by s.parts) (outlet_in log) it) ≡ slots_after slots (kept_of s last)
  done_used it done = ap (slots_after slots) (done_kept s log last it is done)

  pub piece_runs : (piece : Piece) → todo_in s last ≡ todo.Write piece → (calls : List Call)
      (told : Option (List Call)) (ok : Bool) → Runs (walk_calls slots piece) calls told ok
      → Runs (calls_of (files_of calls) slots (kept_of s last)) calls told ok
  piece_runs piece = done_runs (todo.Write piece) (OfCheckpoint (todo.Write piece)) refl

  pub sync_runs : todo_in s last ≡ todo.Sync → (calls : List Call) (told : Option (List Call)) (ok : Bool)
      → Runs (settle_calls slots) calls told ok
      → Runs (calls_of (files_of calls) slots (kept_of s last)) calls told ok
  sync_runs = done_runs todo.Sync (OfCheckpoint todo.Sync) refl

  pub name_runs : (finished : Finished) → todo_in s last ≡ todo.Name finished → (calls : List Call)
      (told : Option (List Call)) (ok : Bool)
      → Runs (name_calls (files_of calls CONTROL_FILE) slots finished) calls told ok
      → Runs (calls_of (files_of calls) slots (kept_of s last)) calls told ok
  name_runs finished = done_runs (todo.Name finished) (OfCheckpoint (todo.Name finished)) refl

  pub piece_used : (piece : Piece) → todo_in s last ≡ todo.Write piece → slots ≡ slots_after slots (kept_of s last)
  piece_used piece = done_used (todo.Write piece)

  pub sync_used : todo_in s last ≡ todo.Sync → slots ≡ slots_after slots (kept_of s last)
  sync_used = done_used todo.Sync

  pub name_used : {E : Type 0} (result : Result (Unit {0}) E) (finished : Finished) (new : SlotsInUse)
      → todo_in s last ≡ todo.Name finished → OnOk result (new ≡ walk_named slots finished)
      → OnOk result (new ≡ slots_after slots (kept_of s last))
  name_used (Ok done) finished new is_named same = same ∙ done_used (todo.Name finished) is_named
  name_used (Err fault) finished new is_named same = tt

pub ruleset keeps = (rows_run, rows_used, piece_runs, sync_runs, name_runs, piece_used, sync_used, name_used)
