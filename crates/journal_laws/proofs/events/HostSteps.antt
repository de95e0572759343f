-- What a step of the host of a member's rows comes to for them and their saver, with what there is to be done of it.
use Rattle.std.proofs.Common.{◌≡◌, ◌≤◌, ℕ, zero, suc, Bool, true, false, List, ◌∷◌, refl, sym, ap, subst, inl, inr}
use Rattle.std.proofs.Common.{arith}
use Rattle.std.specs.Prelude.{◌⊎◌, ◌&&◌, not, Option, None, Some}
use Rattle.run_theory.specs.Lists.{IsIn}
use Rattle.sig_core.specs.declared.mark.Mark.{Mark}
use Rattle.sig_core.specs.declared.member.Member.{Member}
use Rattle.sig_core.specs.declared.outcome.StopCause.{StopCause}
use Rattle.sig_core.specs.declared.place.Part.TheVariants as places
use Rattle.sig_core.specs.declared.signal.Signal.{Signal}
use Rattle.sig_core.specs.declared.view.Shape.{Shape}
use Rattle.sig_core.specs.declared.view.View.{View}
use Rattle.sig_core.specs.Step.{Step}
use Rattle.redo_log.specs.Replaying.{AreRecords}
use Rattle.local_ckpt.specs.Events.{Event}
use Rattle.lqh_saver.specs.declared.stage.Stage.TheVariants.{Resting}
use Rattle.lqh_saver.specs.declared.stage.Todo.{Todo}
use Rattle.lqh_saver.specs.declared.stage.Todo.TheVariants as todo
use Rattle.lqh_saver.specs.Saver.{fresh_saver, saver_installed, saver_row}
use Rattle.lqh_saver.specs.State.{SavingState, saving}
use Rattle.node_views.specs.declared.host_body.HostBody.{HostBody}
use Rattle.node_views.specs.declared.parts.Parts.{Parts}
use Rattle.node_views.specs.Row.{host_row, is_barred, taken_if}
use Rattle.node_views.specs.Saving.{todo_of}
use Rattle.node_views.specs.WellFormed.{is_well_formed}
use Rattle.disk_world.specs.Keeping.{todo_if, todo_in}
use Rattle.disk_world.specs.Laws.{IsBefore, SavingCase, rows_in as saving_in, rows_rest, rows_take, stops_host}
use Rattle.disk_world.proofs.TodoLemmas.{rows_step_with_their_saver}
use Rattle.world_core.specs.Start.{NobodyStarts, Start, made}
use Rattle.world_core.specs.Steps.{HostStep}
use Rattle.world_views.specs.Machine.{after, own_stop, step_after, step_by, step_if, stops_by, told}
use Rattle.view_laws.proofs.eras.Shapes.{shape_stays}
use Rattle.moment_laws.specs.Places.{ldm_of}
use Rattle.moment_laws.proofs.MomentHosts.{part_some}
use Rattle.request_laws.specs.Blocks.{no_replica, rows_in, saver_in, saving_after}
use Rattle.request_laws.proofs.routes.Layouts.{runs_ldm}
use Rattle.journal_laws.specs.Events.{records_if}
use Rattle.journal_laws.specs.Saver.{IsStepBy, KeepsStage, NotesSaves, TellsDone, begins, ends, passes, rows}
use Rattle.journal_laws.specs.Saver.{switches, todo_at, todo_unless}
use Rattle.journal_laws.proofs.events.SaverEvents.{KnowsDone, SaverMakes, none_made, saver_makes}
use Rattle.journal_laws.proofs.events.Writable.{AreWritable, IsWritable}

module _ (shape : Shape) (x : Signal) where
  -- What became of the rows of a host and their saver. Records are asked of them only where the signal is well formed.
  pub record HostMakes (s t : SavingState) (it : Todo) : Type 0 where
    pub event : Option Event
    pub by : IsStepBy s t x.body it event
    pub notes : NotesSaves s t
    pub knows : (t.saver.durable ≡ s.saver.durable)
        ⊎ ((is_well_formed shape x ≡ true) × TellsDone t.saver.durable x.body)
    pub writes : AreWritable s.replica.lqh → (is_well_formed shape x ≡ true → IsWritable x.body)
        → AreWritable t.replica.lqh × AreRecords (records_if event s.replica.lqh.rows)

  left_alone : (s : SavingState) → HostMakes s s todo.Nothing
  left_alone s = record {
    event = None;
    by =
        rows (none_made s s x.body refl refl)
        (record { noted = record { floor = refl; named = refl }; stage = inl refl }) tt refl;
    notes = inl (refl, refl);
    knows = inl refl;
    writes = λ are writable. (are, tt);
  }

  handled : is_well_formed shape x ≡ true → (s t : SavingState) (it : Todo) → SaverMakes s t x.body it
      → HostMakes s t it
  handled sound s t it makes = record {
    event = makes.event;
    by = makes.by;
    notes = makes.notes;
    knows = by makes.knows;
    writes = λ are writable. makes.writes are (writable sound);
  }
    where
      by : KnowsDone s t x.body → (t.saver.durable ≡ s.saver.durable)
          ⊎ ((is_well_formed shape x ≡ true) × TellsDone t.saver.durable x.body)
      by (inl same) = inl same
      by (inr done) = inr (sound, done)

  -- where the view of the signal is installed first
  module _ (s : SavingState) (view : View) where
    abbrev inside : SavingState
    inside = saver_installed s view

    rests_then : (t : SavingState) → KeepsStage inside t → KeepsStage s t
    rests_then t keeps =
        record { noted = record { floor = keeps.noted.floor; named = keeps.noted.named }; stage = by keeps.stage }
      where
        by : (t.saver.stage ≡ inside.saver.stage) ⊎ (t.saver.stage ≡ Resting)
            → (t.saver.stage ≡ s.saver.stage) ⊎ (t.saver.stage ≡ Resting)
        by (inl same) = inr same
        by (inr resting) = inr resting

    step_then : (t : SavingState) (it : Todo) (event : Option Event) → IsStepBy inside t x.body it event
        → IsStepBy s t x.body it event
    step_then t it event (rows made keeps none nothing) =
        rows
        (record { rows = made.rows; outlet = made.outlet; ordered = made.ordered; prepared = made.prepared })
        (rests_then t keeps) none nothing
    step_then t it event (begins walks none nothing) =
        begins
        (record {
          leaves = record {
            noted = record { floor = walks.leaves.noted.floor; named = walks.leaves.noted.named };
            rows = walks.leaves.rows;
            outlet = walks.leaves.outlet;
          };
          to = walks.to;
          stage = walks.stage;
        })
        none nothing
    step_then t it event (passes walks step writes) = let walking = walks.was in absurd cc
    step_then t it event (ends walks none syncs) = let walking = walks.was in absurd cc
    step_then t it event (switches finished to none names) = let walked = to.was in absurd cc

    installs_first : (t : SavingState) (it : Todo) → HostMakes inside t it → HostMakes s t it
    installs_first t it makes = record {
      event = makes.event;
      by = step_then t it makes.event makes.by;
      notes = makes.notes;
      knows = makes.knows;
      writes = λ are writable.
          makes.writes
          (record {
            fragments_some = are.fragments_some;
            fragments_few = are.fragments_few;
            waiting = tt;
            pending = are.pending;
          })
          writable;
    }

  before_makes : (s between : SavingState) → IsBefore s x between → (t : SavingState) (it : Todo)
      → HostMakes between t it → HostMakes s t it
  before_makes s between (inl same) t it makes = subst (λ (r : SavingState). HostMakes r t it) same makes
  before_makes s between (inr enters) t it makes =
      installs_first s x.view t it (subst (λ (r : SavingState). HostMakes r t it) enters makes)

  -- whatever becomes of the rows and their saver at a signal that is well formed
  case_makes : is_well_formed shape x ≡ true → (s t : SavingState) (stopped : Bool) (it : Todo)
      → SavingCase s x t stopped it → HostMakes s t (todo_unless stopped it)
  case_makes sound s t stopped it (stops_host stops before) =
      subst (λ (b : Bool). HostMakes s t (todo_unless b it)) (sym stops)
      (before_makes s t before t todo.Nothing (left_alone t))
  case_makes sound s t stopped it (rows_rest goes before nothing) =
      subst (λ (b : Bool). HostMakes s t (todo_unless b it)) (sym goes)
      (subst (HostMakes s t) (sym nothing) (before_makes s t before t todo.Nothing (left_alone t)))
  case_makes sound s t stopped it (rows_take goes between before same own) =
      subst (λ (b : Bool). HostMakes s t (todo_unless b it)) (sym goes)
      (subst (HostMakes s t) (sym own)
      (subst (λ (u : SavingState). HostMakes s u (saver_row between x).state.saver.todo) (sym same)
      (before_makes s between before (saver_row between x).state (saver_row between x).state.saver.todo
      (handled sound between (saver_row between x).state (saver_row between x).state.saver.todo
      (saver_makes between x)))))

-- nothing becomes of a host at a signal that isn't well formed, or it stops
module _ (s : HostBody) (x : Signal) (unsound : is_well_formed s.standing.shape x ≡ false) where
  abbrev IsAsItWas : Step HostBody → Type 0
  IsAsItWas t =
      (t.state ≡ s) × (todo_unless (stops_by t.effects.marks) (todo_in t.state (Some x)) ≡ todo.Nothing)

  as_it_was : (h : ℕ) → IsAsItWas (step_by h s x)
  unfolding host_row
  as_it_was h = by (own_stop h x)
    where
      by : (o : Option StopCause) → IsAsItWas (step_if s x o)
      by (Some cause) = (refl, refl)
      by None =
          subst (λ (sound : Bool). IsAsItWas (taken_if s x sound)) (sym unsound)
          (refl, ap (λ (b : Bool). todo_if (b && not (is_barred s x)) x (todo_of s.parts)) unsound)

-- one more step of the host of a member's rows, which has the marks of its row
module _ (start : Start) (nobody : NobodyStarts start) (member : Member) (there : IsIn member (made start))
    (log : List HostStep) (e : HostStep)
    (marks : e.step.marks ≡ (step_after start (ldm_of start member) log e).effects.marks) where
  abbrev h : ℕ
  h = ldm_of start member

  abbrev s : HostBody
  s = after start h log

  abbrev x : Signal
  x = e.step.taken

  abbrev t : Step HostBody
  t = step_after start h log e

  -- the rows of a host with their saver, as the log of the member's host has them
  abbrev saving_of : Parts → SavingState
  saving_of parts = saving (rows_in (no_replica start member) parts) (saver_in (fresh_saver start.start_epoch 0) parts)

  abbrev MakesIn : HostBody → List Mark → Type 0
  MakesIn now all =
      HostMakes start.shape x (saving_of s.parts) (saving_of now.parts)
      (todo_unless (stops_by all) (todo_in now (Some x)))

  is_told : (h : ℕ) → 1 ≤ h → (t : Step HostBody) → told h t ≡ t.state
  is_told zero some t = absurd (omega (arith, some))
  is_told (suc h) some t = refl

  unsound_makes : is_well_formed s.standing.shape x ≡ false → MakesIn (told h t) t.effects.marks
  unsound_makes unsound =
      let same = as_it_was s x unsound h in
      subst (λ (now : HostBody). MakesIn now t.effects.marks) (sym (is_told h (part_some start places.Ldm member) t))
      (subst (HostMakes start.shape x (saving_of s.parts) (saving_of t.state.parts)) (sym same.1)
      (subst (λ (now : HostBody). HostMakes start.shape x (saving_of s.parts) (saving_of now.parts) todo.Nothing)
      (sym same.0) (left_alone start.shape x (saving_of s.parts))))

  sound_makes : is_well_formed s.standing.shape x ≡ true → MakesIn (told h t) t.effects.marks
  sound_makes sound =
      let at = runs_ldm start nobody member there log in
      let does = rows_step_with_their_saver h s x at.own at.runs in
      let shaped : is_well_formed start.shape x ≡ true =
      subst (λ (shape : Shape). is_well_formed shape x ≡ true) (shape_stays start nobody h log) sound in
      let stopped : Bool = stops_by t.effects.marks in
      let it : Todo = todo_in (told h t) (Some x) in
      subst (λ (parts : Parts). HostMakes start.shape x (saving_of parts) (saving_of (told h t).parts)
      (todo_unless stopped it)) (sym at.runs)
      (subst (λ (parts : Parts). HostMakes start.shape x (saving_in at.own) (saving_of parts) (todo_unless stopped it))
      (sym does.is)
      (case_makes start.shape x shaped (saving_in at.own) (saving_in does.part) stopped it does.case))

  pub step_makes : HostMakes start.shape x (saving_after start member log) (saving_after start member (e ∷ log))
      (todo_at start member e log)
  step_makes =
      subst (MakesIn (told h t)) (sym marks) (by (is_well_formed s.standing.shape x) refl)
    where
      by : (sound : Bool) → is_well_formed s.standing.shape x ≡ sound → MakesIn (told h t) t.effects.marks
      by true sound = sound_makes sound
      by false unsound = unsound_makes unsound
