-- What a step of the host of the rows has their disk write leaves the control slots so that one of two was saved at an
-- epoch that is durable.
use Rattle.std.proofs.Common.{◌≡◌, ◌≢◌, ◌∙◌, ◌≤◌, ◌<◌, ◌^◌, ℕ, Bool, false, List, ◌∷◌, ◌++◌}
use Rattle.std.proofs.Common.{refl, ap, sym, subst, arith, option_to_list}
use Rattle.std.specs.Prelude.{None, Option, Some}
use Rattle.host_io.specs.Call.{Call}
use Rattle.host_io.specs.DiskState.{FileState, state_of}
use Rattle.host_io.specs.Image.{IsImage}
use Rattle.redo_log.specs.Stored.{files_of}
use Rattle.run_theory.specs.Lists.{IsIn, IsPast}
use Rattle.run_theory.specs.Logs.{IsLog}
use Rattle.run_theory.proofs.Pasts.{past_less}
use Rattle.sig_core.specs.declared.member.Member.{Member}
use Rattle.sig_core.specs.declared.signal.Body.{Body}
use Rattle.sig_core.specs.declared.slots.SystemSlot.{SystemSlot}
use Rattle.sig_core.specs.declared.walk.Finished.{Finished}
use Rattle.sig_core.specs.Journal.{OutletState}
use Rattle.sig_core.specs.Table.{Rows}
use Rattle.sysfile_core.specs.declared.place.TheConstants.{CONTROL_FILE}
use Rattle.sysfile_core.specs.Runs.{Runs}
use Rattle.sysfile_core.specs.Slots.{IsControlSlot}
use Rattle.sys_restart.proofs.NextLemmas.{next_file_is}
use Rattle.local_ckpt.specs.Events.{Event}
use Rattle.lqh_saver.specs.declared.stage.Todo.{Todo}
use Rattle.lqh_saver.specs.declared.stage.Todo.TheVariants as todo
use Rattle.lqh_saver.specs.State.{SaverState, SavingState}
use Rattle.node_disk.specs.Laws.{MayName}
use Rattle.node_disk.specs.Saving.{free_file, name_calls, next_control, rows_calls}
use Rattle.node_disk.specs.Slots.{SlotsInUse}
use Rattle.node_disk.proofs.LawLemmas.{checkpoints_leave}
use Rattle.world_core.specs.Start.{NobodyStarts, Start, made}
use Rattle.world_core.specs.Steps.{HostStep}
use Rattle.world_views.specs.Machine.{has_stopped, machine}
use Rattle.moment_laws.specs.Places.{ldm_of}
use Rattle.request_laws.specs.Blocks.{rows_after, saver_after, saving_after}
use Rattle.disk_world.specs.Keeping.{Kept, calls_of, kept_unless, redo_from}
use Rattle.journal_laws.specs.Journal.{lqh_after}
use Rattle.journal_laws.specs.Saver.{IsStepBy, IsToldDone, SwitchesTo, todo_at, todo_unless}
use Rattle.journal_laws.specs.Saver as steps
use Rattle.journal_laws.proofs.events.HostEvents.{saves_noted}
use Rattle.saved_laws.specs.Behind.{IsDurable}
use Rattle.disk_laws.specs.Laws.{AreSavable}
use Rattle.disk_laws.specs.OnDisk.{HasLastRows}
use Rattle.disk_laws.specs.ToldSlots.{LeavesTold}
use Rattle.disk_laws.proofs.GoneLemmas.{kept_behind}
use Rattle.disk_laws.proofs.NamedSteps.{IsUsable, told_below, usable}
use Rattle.disk_laws.proofs.NamedSteps as naming
use Rattle.disk_laws.proofs.RowsSaved.{GoesOn, rest_is, told_longer}
use Rattle.disk_laws.proofs.RowsSaved as saving
use Rattle.disk_laws.proofs.RowSteps.{goes_on, no_name_of, nothing_names, rows_kept_are, todo_behind}
use Rattle.disk_laws.proofs.told_slots.Written.{name_told, rows_told}

-- the step by which a checkpoint is named
pub record Names (s t : SavingState) (event : Option Event) (finished : Finished) : Type 0 where
  pub switch : SwitchesTo s t finished
  pub none : event ≡ None

names_by : (s t : SavingState) (body : Body) (it : Todo) (event : Option Event) (finished : Finished)
    → IsStepBy s t body it event → it ≡ todo.Name finished → Names s t event finished
names_by s t body it event finished (steps.rows made keeps walk nothing) is =
    let same : todo.Nothing ≡ todo.Name finished = sym nothing ∙ is in absurd cc
names_by s t body it event finished (steps.begins walk none nothing) is =
    let same : todo.Nothing ≡ todo.Name finished = sym nothing ∙ is in absurd cc
names_by s t body it event finished (steps.passes walk step writes) is =
    let same = sym writes ∙ is in absurd cc
names_by s t body it event finished (steps.ends walk none syncs) is =
    let same : todo.Sync ≡ todo.Name finished = sym syncs ∙ is in absurd cc
names_by s t body it event finished (steps.switches other switch none names) is =
    let both : todo.Name other ≡ todo.Name finished = sym names ∙ is in
    let same : other ≡ finished = cc in
    record { switch = subst (SwitchesTo s t) same switch; none = none }

-- in logs that have the step of the rows, and where what they had saved before it is durable if they save more
module _ (start : Start) (nobody : NobodyStarts start) (member : Member) (before : Rows) (first : SystemSlot)
    (there : IsIn member (made start))
    (late : 2 ^ 32 ≤ start.epoch) (generation : ℕ) (logs : ℕ → List HostStep) (e : HostStep) (log : List HostStep)
    (within : IsPast (e ∷ log) (logs (ldm_of start member)))
    (behind :
    (rows_after start member log).saved < (rows_after start member (e ∷ log)).saved
    → IsDurable start logs (rows_after start member log).saved)
    (local : IsLog (machine start) (ldm_of start member) (e ∷ log)) (can : AreSavable start member before log)
    (new : AreSavable start member before (e ∷ log)) (runs_on : has_stopped (e ∷ log) ≡ false) (s : SlotsInUse)
    (calls : List Call) (last : HasLastRows start member before first log s calls) (after : List Call) (ok : Bool) where
  abbrev now : List HostStep
  now = e ∷ log

  abbrev epoch : ℕ
  epoch = (rows_after start member now).saved

  abbrev outlet : OutletState
  outlet = (lqh_after start member now).outlet

  abbrev step_todo : Todo
  step_todo = todo_at start member e log

  abbrev todo_now : Todo
  todo_now = todo_behind start member before first there now

  -- it runs, so what there is to be done of the step is done
  todo_is : step_todo ≡ todo_now
  todo_is = ap (λ (b : Bool). todo_unless b todo_now) runs_on

  abbrev Leaves : List Call → Type 0
  Leaves record_of = LeavesTold start member generation logs record_of

  abbrev Made : Kept → Type 0
  Made kept = Runs (calls_of (files_of calls) s kept) calls (Some after) ok

  as_before : state_of after CONTROL_FILE ≡ state_of calls CONTROL_FILE → Leaves calls → Leaves after
  as_before same leaves bytes image = leaves bytes (subst (λ (f : FileState). IsImage f bytes) same image)

  not_free : CONTROL_FILE ≢ free_file s
  not_free is = absurd (omega (arith, is, (next_file_is (Some s.control)).0))

  -- the rows are saved
  module _ (is : todo_now ≡ todo.Nothing) where
    on : GoesOn start member before first log now s calls last
    on =
        goes_on start member before first there e log local can new s calls last nobody
        (no_name_of step_todo todo.Nothing (todo_is ∙ is) nothing_names)

    readable : s.control.saved < epoch → IsControlSlot (next_control s epoch (redo_from outlet s.control.redo_end))
    readable up =
        subst (λ (bytes : List ℕ). IsControlSlot (next_control s epoch bytes))
        (sym (rest_is start member there before first log now s calls last on new late nobody))
        (saving.may start member there before first log now s calls last on new late nobody up).readable

    -- the slot in use was saved at what the rows had noted before
    durable : s.control.saved < epoch → IsDurable start logs s.control.saved
    durable up =
        subst (IsDurable start logs) last.latest (behind (subst (λ n. n < epoch) (sym last.latest) up))

    saved_told : Leaves calls
        → Runs (rows_calls (files_of calls CONTROL_FILE) s epoch (redo_from outlet s.control.redo_end)) calls
        (Some after) ok
        → Leaves after
    saved_told =
        rows_told start member generation logs s epoch (redo_from outlet s.control.redo_end) calls after ok
        last.rows.control readable durable

  -- a checkpoint comes into use, which is usable only where all that is saved was told to be durable
  module _ (finished : Finished) (is : todo_now ≡ todo.Name finished) where
    abbrev event : Option Event
    event = new.records.events_of.0

    abbrev older : List Event
    older = new.records.events_of.1.0

    abbrev v : SaverState
    v = saver_after start member log

    names : Names (saving_after start member log) (saving_after start member now) event finished
    names =
        names_by (saving_after start member log) (saving_after start member now) e.step.taken.body step_todo event
        finished new.records.events_of.1.1.2 (todo_is ∙ is)

    older_is : new.events ≡ older
    older_is =
        new.records.events_of.1.1.0 ∙ ap (λ (o : Option Event). option_to_list o ++ older) names.none

    usable_so : IsUsable v (rows_after start member log).saved finished names.switch.end
    usable_so =
        usable start member there before first e log s calls last can new late finished names.switch older older_is
        new.records.events_of.1.1.1 (saves_noted start member there nobody log e local)

    may_name : MayName s finished
    may_name =
        naming.may start member there before first e log s calls last can new late finished names.switch older older_is
        new.records.events_of.1.1.1 (saves_noted start member there nobody log e local) nobody

    saved_is_told : IsToldDone start member (logs (ldm_of start member)) s.control.saved
    saved_is_told =
        told_longer start member log (logs (ldm_of start member)) s.control.saved (past_less e within)
        (told_below start member log s.control.saved v.durable
        (omega (arith, usable_so.durable, last.latest)) can.followed.durable)

    named_told : Leaves calls
        → Runs (name_calls (files_of calls CONTROL_FILE) s finished) calls (Some after) ok → Leaves after
    named_told =
        name_told start member generation logs s finished calls after ok last.rows.control may_name.readable
        saved_is_told

  todo_told : (it : Todo) → todo_now ≡ it → Leaves calls → Made (kept_unless epoch outlet it) → Leaves after
  todo_told todo.Nothing is leaves made_so = saved_told is leaves made_so
  todo_told (todo.Write piece) is leaves made_so =
      as_before (checkpoints_leave.written s piece calls after ok CONTROL_FILE made_so not_free) leaves
  todo_told todo.Sync is leaves made_so =
      as_before (checkpoints_leave.settled s calls after ok CONTROL_FILE made_so not_free) leaves
  todo_told (todo.Name finished) is leaves made_so = named_told finished is leaves made_so

  step_told : Leaves calls → Made (kept_behind start (ldm_of start member) now) → Leaves after
  step_told leaves made_so =
      todo_told todo_now refl leaves
      (subst Made (rows_kept_are start member before first there nobody now) made_so)

  pub row_step_told : (all : List HostStep) → all ≡ now → Leaves calls
      → Made (kept_behind start (ldm_of start member) all) → Leaves after
  row_step_told all is =
      subst (λ l. Leaves calls → Made (kept_behind start (ldm_of start member) l) → Leaves after) (sym is) step_told
