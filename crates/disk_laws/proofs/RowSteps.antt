-- On the disk of a member's node: a step of the host of its rows, of which the disk keeps what it noted as saved, or
-- what it came to of a local checkpoint.
use Rattle.std.proofs.Common.{◌≡◌, ◌∙◌, ◌⊎◌, ◌≤◌, ◌<◌, ℕ, ◌-◌, ◌^◌, Bool, true, false, List, ◌∷◌, ◌++◌}
use Rattle.std.proofs.Common.{refl, ap, sym, subst, inl, inr, arith, option_to_list}
use Rattle.std.specs.List.{list_any}
use Rattle.std.specs.Prelude.{None, Option, Some}
use Rattle.std.proofs.lemmas.Bool.{true≢false}
use Rattle.host_io.specs.Call.{Call}
use Rattle.host_io.specs.DiskState.{state_of}
use Rattle.redo_log.specs.Stored.{files_of}
use Rattle.run_theory.specs.Lists.{IsIn, IsPast}
use Rattle.run_theory.specs.Logs.{IsLog}
use Rattle.run_theory.proofs.Pasts.{past_more, past_self}
use Rattle.sig_core.specs.declared.member.Member.{Member}
use Rattle.sig_core.specs.declared.piece.Piece.{Piece}
use Rattle.sig_core.specs.declared.signal.Body.{Body}
use Rattle.sig_core.specs.declared.slots.SystemSlot.{SystemSlot}
use Rattle.sig_core.specs.declared.walk.Finished.{Finished}
use Rattle.sig_core.specs.Journal.{end_of}
use Rattle.sig_core.specs.Table.{Rows}
use Rattle.sig_core.specs.Walk.{next_piece}
use Rattle.sysfile_core.specs.declared.place.TheConstants.{CONTROL_FILE, SYSTEM_FILE}
use Rattle.sysfile_core.specs.Runs.{Runs}
use Rattle.sys_restart.specs.Files.{Files}
use Rattle.lqh_block.specs.State.{LqhState}
use Rattle.lqh_saver.specs.declared.stage.Stage.{Stage}
use Rattle.lqh_saver.specs.declared.stage.Stage.TheVariants.{Resting, Walked, Walking}
use Rattle.lqh_saver.specs.declared.stage.Todo.{Todo}
use Rattle.lqh_saver.specs.declared.stage.Todo.TheVariants as todo
use Rattle.lqh_saver.specs.Redo as redo
use Rattle.lqh_saver.specs.State.{SavingState}
use Rattle.lqh_saver.specs.Walking.{finished_of}
use Rattle.lqh_views.specs.State.{ReplicaState}
use Rattle.local_ckpt.specs.Events.{Event}
use Rattle.node_disk.specs.Saving.{name_calls, named_control, walk_named}
use Rattle.node_disk.specs.Slots.{SlotsInUse}
use Rattle.node_disk.proofs.LawLemmas.{checkpoints_leave}
use Rattle.node_views.specs.Saving.{outlet_of}
use Rattle.world_core.specs.Start.{NobodyStarts, Start, made}
use Rattle.world_core.specs.Steps.{HostStep}
use Rattle.world_views.specs.Disks.{newest_taken}
use Rattle.world_views.specs.Machine.{after, has_stopped, machine, stops_by}
use Rattle.moment_laws.specs.Places.{ldm_of}
use Rattle.request_laws.specs.Blocks.{rows_after, saver_after, saving_after}
use Rattle.request_laws.proofs.routes.Layouts.{runs_ldm}
use Rattle.request_laws.proofs.routes.PartSteps.{rows_are}
use Rattle.disk_world.specs.Keeping.{Kept, OfCheckpoint, calls_of, kept_beside, kept_unless, todo_in}
use Rattle.journal_laws.specs.Journal.{AreEventsOf, lqh_after}
use Rattle.journal_laws.specs.Saver.{EndsWalk, IsStepBy, NotesSaves, PassesRows, SwitchesTo, todo_at, todo_unless}
use Rattle.journal_laws.specs.Saver.{written, written_by}
use Rattle.journal_laws.specs.Saver as steps
use Rattle.journal_laws.specs.Walks.{HasComeTo}
use Rattle.journal_laws.proofs.events.HostEvents.{saves_noted}
use Rattle.disk_laws.specs.Found.{HasSavedRows}
use Rattle.disk_laws.specs.Laws.{AreSavable}
use Rattle.disk_laws.specs.Noted.{is_disk_stop, kept_part}
use Rattle.disk_laws.specs.OnDisk.{HasAllRows, HasLastRows, HasWalked, IsOnDisk, KeepsNoted, KeepsRows}
use Rattle.disk_laws.proofs.GoneLemmas.{HasStopped, kept_behind, running}
use Rattle.disk_laws.proofs.JournalLemmas.{Appends, Goes, IsNoName, appends, flushed_same, gives_up, goes}
use Rattle.disk_laws.proofs.JournalLemmas.{keeps_bytes}
use Rattle.disk_laws.proofs.KeptParts.{failed_part}
use Rattle.disk_laws.proofs.NamedSteps.{named_found, named_last, names_leave, others_named}
use Rattle.disk_laws.proofs.PiecesWritten.{walk_size, walked_on}
use Rattle.disk_laws.proofs.RecordLemmas.{TellsRecord, runs_tell}
use Rattle.disk_laws.proofs.RowKept.{AreOnDisk, RowsAreKept, noted_still, piece_kept, saves_kept, stopped_on}
use Rattle.disk_laws.proofs.RowKept.{sync_kept}
use Rattle.disk_laws.proofs.RowsSaved.{GoesOn, still_last}
use Rattle.disk_laws.proofs.SavedLemmas.{saved_is, stop_keeps}
use Rattle.disk_laws.proofs.SaverSteps.{todo_keeps}
use Rattle.disk_laws.proofs.StandLemmas.{until_on}
use Rattle.disk_laws.proofs.ImageLemmas.{AreOthersLeft, joined, others_left}

-- a step that names no checkpoint appends the records of its event
appends_by : (s t : LqhState) (it : Todo) (event : Option Event) → Goes s t it event → IsNoName it
    → Appends s t event
appends_by s t it event (appends of not_named) none = of
appends_by s t it event (gives_up finished of names) none = absurd (none finished names)

-- and leaves how many were named
named_same : (s t : SavingState) (body : Body) (it : Todo) (event : Option Event) → IsStepBy s t body it event
    → IsNoName it → t.saver.named ≡ s.saver.named
named_same s t body it event (steps.rows made keeps walk nothing) none = keeps.noted.named
named_same s t body it event (steps.begins walk no_event nothing) none = walk.leaves.noted.named
named_same s t body it event (steps.passes walk step writes) none = walk.leaves.noted.named
named_same s t body it event (steps.ends walk no_event syncs) none = walk.leaves.noted.named
named_same s t body it event (steps.switches finished switch no_event names) none = absurd (none finished names)

pub no_name_of : (it other : Todo) → it ≡ other → IsNoName other → IsNoName it
no_name_of it other same none finished names = none finished (sym same ∙ names)

pub nothing_names : IsNoName todo.Nothing
nothing_names finished names = cc

module _ (start : Start) (member : Member) (before : Rows) (first : SystemSlot) (there : IsIn member (made start)) where
  abbrev ldm : ℕ
  ldm = ldm_of start member

  abbrev lqh : List HostStep → LqhState
  lqh = lqh_after start member

  abbrev stage_of : List HostStep → Stage
  stage_of log = (saver_after start member log).stage

  abbrev saved_of : List HostStep → ℕ
  saved_of log = (rows_after start member log).saved

  -- what there is to be done of a local checkpoint behind a log
  abbrev pub todo_behind : List HostStep → Todo
  todo_behind log = todo_in (after start ldm log) (newest_taken log)

  -- what a disk keeps of the host of the rows
  pub rows_kept_are : NobodyStarts start → (log : List HostStep)
      → kept_behind start ldm log ≡ kept_unless (saved_of log) (lqh log).outlet (todo_behind log)
  rows_kept_are nobody log =
      let at = runs_ldm start nobody member there log in
      let host = after start ldm log in
      ap (λ o. kept_beside o host (newest_taken log)) (ap outlet_of at.runs)
      ∙ ap (λ (r : ReplicaState). kept_beside (Some r.lqh.outlet) host (newest_taken log))
      (sym (rows_are start member ldm log refl at.own at.runs))
      ∙ ap (λ (saved : ℕ). kept_unless saved (lqh log).outlet (todo_behind log))
      (saved_is start nobody member there log)

  -- where it runs, nothing of them failed
  pub rows_there : (log : List HostStep) (s : SlotsInUse) (calls : List Call) → has_stopped log ≡ false
      → KeepsRows start member before first log s calls → HasAllRows start member before first log s calls
  rows_there log s calls ran (inl has) = has
  rows_there log s calls ran (inr leaves) = absurd (true≢false (sym leaves.stopped ∙ ran))

  -- a step of a host, and what it leaves of the rows that a disk has
  module _ (e : HostStep) (log : List HostStep) (local : IsLog (machine start) ldm (e ∷ log))
      (can : AreSavable start member before log) (new : AreSavable start member before (e ∷ log)) (s : SlotsInUse)
      (calls : List Call) (last : HasLastRows start member before first log s calls) where
    abbrev event : Option Event
    event = new.records.events_of.0

    abbrev older : List Event
    older = new.records.events_of.1.0

    abbrev it : Todo
    it = todo_at start member e log

    events_are : new.events ≡ option_to_list event ++ older
    events_are = new.records.events_of.1.1.0

    older_of : AreEventsOf start member log older
    older_of = new.records.events_of.1.1.1

    made_by : IsStepBy (saving_after start member log) (saving_after start member (e ∷ log)) e.step.taken.body it event
    made_by = new.records.events_of.1.1.2

    pub goes_on : NobodyStarts start → IsNoName it → GoesOn start member before first log (e ∷ log) s calls last
    goes_on nobody none =
        let same =
        named_same (saving_after start member log) (saving_after start member (e ∷ log)) e.step.taken.body it event
        made_by none in
        record {
          past = past_more e (past_self log);
          begins = last.begins
              ∙ sym (flushed_same (lqh log) (lqh (e ∷ log)) event
              (keeps_bytes start member there nobody log older older_of)
              (appends_by (lqh log) (lqh (e ∷ log)) it event
              (goes (saving_after start member log) (saving_after start member (e ∷ log)) e.step.taken.body it event
              made_by)
              none));
          named = same;
          noted = saves_noted start member there nobody log e local;
          until_now = until_on start nobody member there before first e log can.events can.records can.followed.given_up
              new.events new.records event older events_are older_of last.base last.least s.control.redo_start
              last.events last.redo last.begins last.until_now;
        }

    -- where something is to be done of it that names nothing, they are still the last
    still : NobodyStarts start → IsNoName it → (it ≡ todo.Nothing → ⊥)
        → HasLastRows start member before first (e ∷ log) s calls
    still nobody none done =
        still_last start member there before first log (e ∷ log) s calls last (goes_on nobody none)
        (todo_keeps start nobody member there log e done ∙ last.latest)

  -- the host stops by a step of which the disk keeps nothing
  pub rows_stop : NobodyStarts start → (log now : List HostStep) (s : SlotsInUse) (calls : List Call)
      → IsLog (machine start) ldm now
      → ((l : List HostStep) → IsPast l now → AreSavable start member before l)
      → HasStopped start ldm log now → KeepsRows start member before first log s calls
      → KeepsRows start member before first now s calls
  rows_stop nobody log now s calls local savable stopped (inl has) =
      inl (subst (λ l. HasAllRows start member before first l s calls) (sym stopped.is) (record {
        last = still_last start member there before first log (e ∷ log) s calls has.last
            (goes_on e log (subst (IsLog (machine start) ldm) stopped.is local) (savable log past) new s calls has.last
            nobody
            none)
            (stop_keeps start nobody member there log e (ap stops_by (sym stopped.step.fits.marks) ∙ stopped.stops)
            ∙ has.last.latest);
        walked = λ runs. absurd (true≢false (sym stopped.stops ∙ runs));
      }))
    where
      e : HostStep
      e = stopped.e

      past : IsPast log now
      past = subst (IsPast log) (sym stopped.is) (past_more e (past_self log))

      new : AreSavable start member before (e ∷ log)
      new = savable (e ∷ log) (subst (IsPast (e ∷ log)) (sym stopped.is) (past_self (e ∷ log)))

      none : IsNoName (todo_at start member e log)
      none =
          no_name_of (todo_at start member e log) todo.Nothing
          (ap (λ (b : Bool). todo_unless b (todo_behind (e ∷ log))) stopped.stops) nothing_names
  rows_stop nobody log now s calls local savable stopped (inr leaves) =
      absurd (true≢false (sym leaves.stopped ∙ running start log stopped.step.runs))

  module _ (nobody : NobodyStarts start) (late : 2 ^ 32 ≤ start.epoch) (noted_log : List HostStep) (s : SlotsInUse)
      (calls : List Call)
      (told : Option (List Call)) (ok : Bool) where
    abbrev Made : Kept → Type 0
    Made kept = Runs (calls_of (files_of calls) s kept) calls told ok

    -- what is kept, where this is to be done
    abbrev Keeps : List HostStep → Todo → Type 0
    Keeps now it =
        Made (kept_unless (saved_of now) (lqh now).outlet it)
        → RowsAreKept start member before first now noted_log s told ok
        (kept_unless (saved_of now) (lqh now).outlet it)

    keeps_by : (now : List HostStep) (one other : Todo) → one ≡ other → Keeps now other → Keeps now one
    keeps_by now one other same = subst (Keeps now) (sym same)

    kept_as : (now : List HostStep) → Keeps now (todo_behind now) → Made (kept_behind start ldm now)
        → RowsAreKept start member before first now noted_log s told ok (kept_behind start ldm now)
    kept_as now keeps =
        subst (λ kept. Made kept → RowsAreKept start member before first now noted_log s told ok kept)
        (sym (rows_kept_are nobody now)) keeps

    -- A host that runs has a step more.
    module _ (e : HostStep) (log : List HostStep) (ran : has_stopped log ≡ false)
        (local : IsLog (machine start) ldm (e ∷ log)) (can : AreSavable start member before log)
        (new : AreSavable start member before (e ∷ log)) (has : HasAllRows start member before first log s calls)
        (noted : KeepsNoted start member before first noted_log s calls) where
      abbrev now : List HostStep
      now = e ∷ log

      abbrev step_todo : Todo
      step_todo = todo_at start member e log

      abbrev was : SavingState
      was = saving_after start member log

      abbrev behind : SavingState
      behind = saving_after start member now

      still_walked : (at : Stage) → was.saver.stage ≡ at → HasWalked start member before first at log s calls
      still_walked at same =
          subst (λ stage. HasWalked start member before first stage log s calls) same (has.walked ran)

      -- what was written, where nothing is to be written
      written_same : (other : Todo) → step_todo ≡ other
          → written_by other (written start member log) ≡ written start member log
          → written start member now ≡ written start member log
      written_same other same none = ap (λ i. written_by i (written start member log)) same ∙ none

      plain : step_todo ≡ todo.Nothing → HasWalked start member before first (stage_of now) log s calls
          → Keeps now step_todo
      plain nothing walked =
          keeps_by now step_todo todo.Nothing nothing
          (saves_kept start member there before first now noted_log s calls noted told ok nobody log has.last
          (goes_on e log local can new s calls has.last nobody
          (no_name_of step_todo todo.Nothing nothing nothing_names)) new
          late
          (λ on.
          walked_on start member before first log now s calls (stage_of now) (written_same todo.Nothing nothing refl)
          walked)
          least)
        where
          least : s.control.saved < saved_of now → (stop : HostStep) → list_any is_disk_stop stop.step.marks ≡ true
              → saved_of (kept_part (stop ∷ now)) ≤ s.control.saved
          least up stop failed =
              let same : saved_of (kept_part (stop ∷ now)) ≡ saved_of log =
              ap (λ l. saved_of l) (failed_part stop e log failed) in
              omega (arith, same, has.last.latest)

      writes : (walks : PassesRows was behind)
          → step_todo ≡ todo.Write (next_piece (lqh log).rows walks.walk) → Keeps now step_todo
      writes walks is =
          keeps_by now step_todo (todo.Write piece) is
          (piece_kept start member there before first now noted_log s calls noted told ok nobody
          (still e log local can new s calls has.last nobody
          (no_name_of step_todo (todo.Write piece) is (λ finished names. cc))
          (λ nothing. cc))
          (lqh log).rows walks.walk walks.to (written start member log) walks.stage
          (ap (λ i. written_by i (written start member log)) is)
          (walk_size start member log can.events walks.walk
          (subst (HasComeTo start member log can.events) walks.was can.followed.walk))
          (still_walked (Walking walks.walk walks.to) walks.was))
        where
          piece : Piece
          piece = next_piece (lqh log).rows walks.walk

      syncs : (walks : EndsWalk was behind) → step_todo ≡ todo.Sync → Keeps now step_todo
      syncs walks is =
          keeps_by now step_todo todo.Sync is
          (sync_kept start member there before first now noted_log s calls noted told ok nobody
          (still e log local can new s calls has.last nobody (no_name_of step_todo todo.Sync is (λ finished names. cc))
          (λ nothing. cc))
          (finished_of walks.walk (redo.noted was.saver.floor was.replica.lqh.outlet)) (end_of was.replica.lqh.outlet)
          walks.stage
          (walked_on start member before first log now s calls (Walking walks.walk walks.to)
          (written_same todo.Sync is refl) (still_walked (Walking walks.walk walks.to) walks.was)))

      module _ (finished : Finished) (switch : SwitchesTo was behind finished)
          (none : new.records.events_of.0 ≡ None) (is : step_todo ≡ todo.Name finished) where
        older_is : new.events ≡ new.records.events_of.1.0
        older_is =
            new.records.events_of.1.1.0
            ∙ ap (λ (o : Option Event). option_to_list o ++ new.records.events_of.1.0) none

        noted_on : NotesSaves was behind
        noted_on = saves_noted start member there nobody log e local

        module _ (runs : Runs (name_calls (files_of calls CONTROL_FILE) s finished) calls told ok) where
          tells : TellsRecord calls told
          tells =
              runs_tell (name_calls (files_of calls CONTROL_FILE) s finished) calls told ok
              has.last.rows.control.kept runs

          made_so : Runs (name_calls (files_of calls CONTROL_FILE) s finished) calls (Some tells.calls) ok
          made_so =
              subst (λ o. Runs (name_calls (files_of calls CONTROL_FILE) s finished) calls o ok) tells.is runs

          same_system : state_of tells.calls SYSTEM_FILE ≡ state_of calls SYSTEM_FILE
          same_system =
              checkpoints_leave.named s finished calls tells.calls ok SYSTEM_FILE made_so
              (λ at. absurd (omega (arith, at)))

          walked : HasWalked start member before first (Walked finished switch.end) log s calls
          walked = still_walked (Walked finished switch.end) switch.was

          done : ok ≡ true → AreOnDisk start member before first now noted_log (walk_named s finished) told
          done so = record {
            calls = tells.calls;
            is = tells.is;
            on = record {
              rows =
                  inl (record {
                    last =
                        named_last start member there before first e log s calls has.last can new late finished switch
                        new.records.events_of.1.0 older_is new.records.events_of.1.1.1 noted_on nobody walked
                        tells.calls ok
                        made_so so;
                    walked = λ on.
                        subst
                        (λ at. HasWalked start member before first at now (walk_named s finished) tells.calls)
                        (sym switch.stage) tt;
                  });
              noted = noted_still start member there before first now noted_log s calls noted told ok tells.calls
                  tells.kept same_system false (named_control s finished) (1 - s.control_at);
            };
          }

          least : (stop : HostStep) → list_any is_disk_stop stop.step.marks ≡ true
              → saved_of (kept_part (stop ∷ now)) ≤ s.control.saved
          least stop failed =
              let same : saved_of (kept_part (stop ∷ now)) ≡ saved_of log =
              ap (λ l. saved_of l) (failed_part stop e log failed) in
              omega (arith, same, has.last.latest)

          leaves : (stop : HostStep) → list_any is_disk_stop stop.step.marks ≡ true → (image : Files)
              → AreOthersLeft tells.calls image
              → HasSavedRows start member before first.generation (stop ∷ now) image
          leaves stop failed image left =
              named_found start member there before first e log s calls has.last can new late finished switch
              new.records.events_of.1.0 older_is new.records.events_of.1.1.1 noted_on nobody (stop ∷ now)
              (past_more stop (past_more e (past_self log))) (least stop failed) image
              (others_named start member there before first e log s calls has.last can new late finished switch
              new.records.events_of.1.0 older_is new.records.events_of.1.1.1 noted_on (files_of tells.calls) image
              (names_leave start member there before first e log s calls has.last can new late finished switch
              new.records.events_of.1.0 older_is new.records.events_of.1.1.1 noted_on nobody walked tells.calls ok
              made_so
              tells.grows (joined (files_of tells.calls) image) (others_left tells.calls image tells.kept left)))

          names_now : RowsAreKept start member before first now noted_log s told ok (OfCheckpoint (todo.Name finished))
          names_now = record {
            done = done;
            failed = λ not_so stop failed stops.
                stopped_on start member there before first now noted_log s calls noted told ok tells same_system stop
                stops (leaves stop failed);
          }

        names : Keeps now step_todo
        names = keeps_by now step_todo (todo.Name finished) is names_now

      does : IsStepBy was behind e.step.taken.body step_todo new.records.events_of.0 → Keeps now step_todo
      does (steps.rows made keeps walk nothing) = plain nothing (by keeps.stage)
        where
          by : (behind.saver.stage ≡ was.saver.stage) ⊎ (behind.saver.stage ≡ Resting)
              → HasWalked start member before first (stage_of now) log s calls
          by (inl same) = still_walked (stage_of now) (sym same)
          by (inr resting) =
              subst (λ at. HasWalked start member before first at log s calls) (sym resting) tt
      does (steps.begins walk none nothing) =
          plain nothing (subst (λ at. HasWalked start member before first at log s calls) (sym walk.stage) refl)
      does (steps.passes walk step is) = writes walk is
      does (steps.ends walk none is) = syncs walk is
      does (steps.switches finished switch none is) = names finished switch none is

      pub step_kept : has_stopped now ≡ false → Made (kept_behind start ldm now)
          → RowsAreKept start member before first now noted_log s told ok (kept_behind start ldm now)
      step_kept runs =
          kept_as now
          (subst (Keeps now) (ap (λ (b : Bool). todo_unless b (todo_behind now)) runs)
          (does new.records.events_of.1.1.2))

    -- so it does, whatever it came to
    pub rows_kept : (e : HostStep) (log all : List HostStep) → all ≡ e ∷ log → has_stopped log ≡ false
        → has_stopped all ≡ false → IsLog (machine start) ldm all
        → ((l : List HostStep) → IsPast l all → AreSavable start member before l)
        → IsOnDisk start member before first log noted_log s calls → Made (kept_behind start ldm all)
        → RowsAreKept start member before first all noted_log s told ok (kept_behind start ldm all)
    rows_kept e log all more ran runs local savable on =
        subst
        (λ l. Made (kept_behind start ldm l)
        → RowsAreKept start member before first l noted_log s told ok (kept_behind start ldm l)) (sym more)
        (step_kept e log ran (subst (IsLog (machine start) ldm) more local)
        (savable log (subst (IsPast log) (sym more) (past_more e (past_self log))))
        (savable (e ∷ log) (subst (IsPast (e ∷ log)) (sym more) (past_self (e ∷ log))))
        (rows_there log s calls ran on.rows) on.noted (ap has_stopped (sym more) ∙ runs))
