-- The events of a member's rows along a log of their host, and what its journal has behind them.
use Rattle.std.proofs.Common.{◌≡◌, List, [], ◌∷◌, ◌++◌, ℕ, true, refl, sym, ap, ◌∙◌, subst}
use Rattle.std.specs.Prelude.{Option, None, Some, option_to_list}
use Rattle.frag_map.specs.Shape.{IsShape}
use Rattle.run_theory.specs.Lists.{Each, IsIn}
use Rattle.run_theory.specs.Logs.{IsLog}
use Rattle.sig_core.specs.declared.member.Member.{Member}
use Rattle.sig_core.specs.declared.redo.Redo.{Redo}
use Rattle.sig_core.specs.declared.redo.Redo.TheVariants as redo
use Rattle.sig_core.specs.declared.signal.Body.{Body}
use Rattle.sig_core.specs.Journal.{OutletState}
use Rattle.sig_core.specs.Rows.{RowsState}
use Rattle.redo_log.specs.Replaying.{AreRecords}
use Rattle.local_ckpt.specs.Events.{Abort, Commit, Complete, Event, Prepare, Step, changed, log_if, logged}
use Rattle.local_ckpt.specs.Orderly.{image_in}
use Rattle.lqh_block.specs.State.{LqhState}
use Rattle.lqh_views.specs.State.{ReplicaState}
use Rattle.lqh_saver.specs.declared.stage.Todo.{Todo}
use Rattle.lqh_saver.specs.State.{SavingState}
use Rattle.node_views.specs.WellFormed.{is_well_formed}
use Rattle.world_core.specs.Start.{NobodyStarts, Start, made}
use Rattle.world_core.specs.Steps.{HostStep}
use Rattle.world_views.specs.Machine.{machine}
use Rattle.moment_laws.specs.Places.{ldm_of}
use Rattle.journal_laws.specs.Events.{behind_all, changed_if, records_behind, records_if, rows_behind}
use Rattle.journal_laws.specs.Journal.{AreEventsOf, HasRecords, first_rows, lqh_after, outlet_with}
use Rattle.journal_laws.specs.Saver.{IsRestOf, IsStepBy, LeavesAll, NotesSaves, begins, ends, passes, rows, switches}
use Rattle.journal_laws.specs.Saver.{todo_at}
use Rattle.request_laws.specs.Blocks.{saving_after}
use Rattle.journal_laws.proofs.events.FirstRows.{first_replica, first_writable}
use Rattle.journal_laws.proofs.events.HostSteps.{HostMakes, step_makes}
use Rattle.journal_laws.proofs.events.Outlets.{less_left, more_behind, nothing_given}
use Rattle.journal_laws.proofs.events.Writable.{AreWritable, IsWritable}

records_more_if : (record_of : Redo) (o : Option (Option (List ℕ))) (log : List Redo)
    → AreRecords (log_if record_of o []) → AreRecords log → AreRecords (log_if record_of o log)
records_more_if record_of None log own are = are
records_more_if record_of (Some image) log own are = (own.0, are)

records_more : (event : Event) (s : RowsState) (log : List Redo) → AreRecords (logged event s []) → AreRecords log
    → AreRecords (logged event s log)
records_more (Prepare tx fragment key image) s log own are = (own.0, are)
records_more (Commit tx key epoch) s log own are =
    records_more_if (redo.Commit tx epoch key) (image_in s tx key) log own are
records_more (Abort tx key) s log own are = records_more_if (redo.Abort tx key) (image_in s tx key) log own are
records_more (Complete tx key) s log own are = are
records_more Step s log own are = are

-- where a host takes the signal it can be written what that says
abbrev pub TakesWritable : Start → HostStep → Type 0
TakesWritable start e = is_well_formed start.shape e.step.taken ≡ true → IsWritable e.step.taken.body

module _ (first : RowsState) where
  -- Rows have come by events from what they were at first, and their journal has the records of these from a position
  -- on.
  pub record HasCome (s : LqhState) (events : List Event) : Type 0 where
    pub rows : s.rows ≡ rows_behind first events
    pub outlet : IsRestOf s.outlet (outlet_with (records_behind first events))

  -- so it is behind a step
  module _ (s t : SavingState) (body : Body) (it : Todo) (events : List Event) (has : HasCome s.replica.lqh events)
    where
      abbrev Come : Option Event → Type 0
      Come event = HasCome t.replica.lqh (option_to_list event ++ events)

      stays : LeavesAll s t → Come None
      stays leaves = record {
        rows = leaves.rows ∙ has.rows;
        outlet =
            subst (λ (o : OutletState). IsRestOf o (outlet_with (records_behind first events))) (sym leaves.outlet)
            has.outlet;
      }

      event_made : (event : Option Event) → t.replica.lqh.rows ≡ changed_if event s.replica.lqh.rows
          → t.replica.lqh.outlet ≡ behind_all (records_if event s.replica.lqh.rows) s.replica.lqh.outlet → Come event
      event_made None same outlet = record {
        rows = same ∙ has.rows;
        outlet =
            subst (λ (o : OutletState). IsRestOf o (outlet_with (records_behind first events))) (sym outlet)
            has.outlet;
      }
      event_made (Some event) same outlet = record {
        rows = same ∙ ap (changed event) has.rows;
        outlet =
            subst (λ (o : OutletState). IsRestOf o (outlet_with (records_behind first (event ∷ events)))) (sym outlet)
            (subst
            (λ (r : RowsState). IsRestOf (behind_all (logged event r []) s.replica.lqh.outlet)
            (outlet_with (records_behind first (event ∷ events)))) (sym has.rows)
            (more_behind event (rows_behind first events) s.replica.lqh.outlet (records_behind first events)
            has.outlet));
      }

      pub comes : (event : Option Event) → IsStepBy s t body it event → Come event
      comes event (rows makes keeps none nothing) = event_made event makes.rows makes.outlet
      comes event (begins walks none nothing) = subst Come (sym none) (stays walks.leaves)
      comes event (passes walks step writes) =
          subst Come (sym step)
          (let same = stays walks.leaves in record { rows = same.rows; outlet = same.outlet })
      comes event (ends walks none syncs) = subst Come (sym none) (stays walks.leaves)
      comes event (switches finished to none names) =
          subst Come (sym none)
          (record {
            rows = to.rows ∙ has.rows;
            outlet =
                subst (λ (o : OutletState). IsRestOf o (outlet_with (records_behind first events))) (sym to.outlet)
                (less_left s.replica.lqh.outlet (outlet_with (records_behind first events)) finished.from has.outlet
                to.has);
          })

module _ (start : Start) (member : Member) (there : IsIn member (made start)) where
  abbrev first : RowsState
  first = first_rows start member

  pub begun : NobodyStarts start → HasCome first (lqh_after start member []) []
  begun nobody = record {
    rows = refl;
    outlet =
        subst (λ (s : ReplicaState). IsRestOf s.lqh.outlet (outlet_with []))
        (sym (first_replica start nobody member there))
        nothing_given;
  }

  -- whatever their events are
  pub events_come : NobodyStarts start → (log : List HostStep) (events : List Event)
      → AreEventsOf start member log events
      → HasCome first (lqh_after start member log) events
  events_come nobody [] events none = subst (HasCome first (lqh_after start member [])) (sym none) (begun nobody)
  events_come nobody (e ∷ log) events are =
      subst (HasCome first (lqh_after start member (e ∷ log))) (sym are.1.1.0)
      (comes first (saving_after start member log) (saving_after start member (e ∷ log)) e.step.taken.body
      (todo_at start member e log) are.1.0 (events_come nobody log are.1.0 are.1.1.1) are.0 are.1.1.2)

  -- There are such events, and their records can be written if the signals can.
  pub record HasEvents (log : List HostStep) : Type 0 where
    pub events : List Event
    pub events_of : AreEventsOf start member log events
    pub writes : IsShape start.shape → Each (TakesWritable start) log
        → AreWritable (lqh_after start member log) × AreRecords (records_behind first events)

  module _ (nobody : NobodyStarts start) (e : HostStep) (log : List HostStep) (has : HasEvents log)
      (makes : HostMakes start.shape e.step.taken (saving_after start member log) (saving_after start member (e ∷ log))
      (todo_at start member e log))
    where
      abbrev older : List Event
      older = has.events

      recorded : (event : Option Event) → AreRecords (records_if event (lqh_after start member log).rows)
          → AreRecords (records_behind first older) → AreRecords (records_behind first (option_to_list event ++ older))
      recorded None own are = are
      recorded (Some event) own are =
          records_more event (rows_behind first older) (records_behind first older)
          (subst (λ (rows : RowsState). AreRecords (logged event rows []))
          (events_come nobody log older has.events_of).rows own) are

      more : HasEvents (e ∷ log)
      more = record {
        events = option_to_list makes.event ++ older;
        events_of = (makes.event, (older, (refl, has.events_of, makes.by)));
        writes = λ shape takes.
            let before = has.writes shape takes.1 in
            let after = makes.writes before.0 takes.0 in (after.0, recorded makes.event after.1 before.1);
      }

  -- along each log of its host
  pub has_events : NobodyStarts start → (log : List HostStep) → IsLog (machine start) (ldm_of start member) log
      → HasEvents log
  has_events nobody [] is = record {
    events = [];
    events_of = refl;
    writes = λ shape takes. (first_writable start nobody member there shape, tt);
  }
  has_events nobody (e ∷ log) is =
      more nobody e log (has_events nobody log is.1) (step_makes start nobody member there log e is.0.fits.marks)

  -- a log that takes what can be written has the records of its events
  pub has_records : NobodyStarts start → IsShape start.shape → (log : List HostStep)
      → IsLog (machine start) (ldm_of start member) log
      → Each (TakesWritable start) log → (events : List Event) × HasRecords start member log events
  has_records nobody shape log is takes =
      let has = has_events nobody log is in (
        has.events,
        record {
          events_of = has.events_of;
          records = (has.writes shape takes).1;
          outlet = (events_come nobody log has.events has.events_of).outlet;
        },
      )

  -- the saver of the rows knows where the journal ended when they were saved
  pub saves_noted : NobodyStarts start → (log : List HostStep) (e : HostStep)
      → IsLog (machine start) (ldm_of start member) (e ∷ log)
      → NotesSaves (saving_after start member log) (saving_after start member (e ∷ log))
  saves_noted nobody log e is = (step_makes start nobody member there log e is.0.fits.marks).notes
