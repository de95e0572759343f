-- The saver of a member's rows, and what a step makes of it and of the rows.
use Rattle.std.specs.Prelude.{◌≡◌, ◌⊎◌, ◌≤◌, ◌<◌, ℕ, ◌+◌, ◌==◌, Bool, true, false, if◌then◌else◌, List, [], ◌∷◌, ◌++◌}
use Rattle.std.specs.Prelude.{Option, None, Some}
use Rattle.local_ckpt.specs.Events.{Event, Step}
use Rattle.lqh_saver.specs.declared.stage.Stage.TheVariants.{Resting, Walked, Walking}
use Rattle.lqh_saver.specs.declared.stage.Todo.{Todo}
use Rattle.lqh_saver.specs.declared.stage.Todo.TheVariants as todo
use Rattle.lqh_saver.specs.Redo.{noted, oldest}
use Rattle.lqh_saver.specs.State.{SavingState}
use Rattle.lqh_saver.specs.Switching.{has_position, is_usable, outlet_from}
use Rattle.lqh_saver.specs.Walking.{finished_of}
use Rattle.node_views.specs.WellFormed.{is_well_formed}
use Rattle.sig_core.specs.declared.member.Member.{Member}
use Rattle.sig_core.specs.declared.piece.Piece.{Piece}
use Rattle.sig_core.specs.declared.signal.Body.{Body}
use Rattle.sig_core.specs.declared.signal.Body.TheVariants.{Epoch}
use Rattle.sig_core.specs.declared.signal.epoch.EpochSignal.TheVariants.{GcpDone}
use Rattle.sig_core.specs.declared.walk.Finished.{Finished}
use Rattle.sig_core.specs.Journal.{OutletState, end_of}
use Rattle.sig_core.specs.Rows.{next_place}
use Rattle.sig_core.specs.Walk.{WalkState, begun, next_piece, stepped}
use Rattle.disk_world.specs.Keeping.{todo_in}
use Rattle.moment_laws.specs.Places.{ldm_of}
use Rattle.world_core.specs.Start.{Start}
use Rattle.world_core.specs.Steps.{HostStep}
use Rattle.world_views.specs.Machine.{after, stops_by}
use Rattle.journal_laws.specs.Events.{IsMadeBy}

-- what stands from a position on of what a journal has to give out
pub record IsRestOf (o all : OutletState) : Type 0 where
  pub least : all.flushed ≤ o.flushed
  pub most : o.flushed ≤ end_of all
  pub is : o ≡ outlet_from all o.flushed

-- no step of a walk
abbrev pub IsNoStep : Option Event → Type 0
IsNoStep (Some Step) = ⊥
IsNoStep event = Unit {0}

-- what is noted of a saver stays: how much was given up, how much was named
pub record HasNoted (s t : SavingState) : Type 0 where
  pub floor : t.saver.floor ≡ s.saver.floor
  pub named : t.saver.named ≡ s.saver.named

-- the rows and their journal stay too
pub record LeavesAll (s t : SavingState) : Type 0 where
  pub noted : HasNoted s t
  pub rows : t.replica.lqh.rows ≡ s.replica.lqh.rows
  pub outlet : t.replica.lqh.outlet ≡ s.replica.lqh.outlet

-- the local checkpoint is where it was, or given up
pub record KeepsStage (s t : SavingState) : Type 0 where
  pub noted : HasNoted s t
  pub stage : (t.saver.stage ≡ s.saver.stage) ⊎ (t.saver.stage ≡ Resting)

-- a walk begins
pub record BeginsWalk (s t : SavingState) : Type 0 where
  pub leaves : LeavesAll s t
  pub to : ℕ
  pub stage :
      t.saver.stage ≡ Walking (begun 0 (oldest s.replica.lqh.rows s.replica.lqh.outlet) s.saver.floor) to

-- it passes some rows
pub record PassesRows (s t : SavingState) : Type 0 where
  pub leaves : LeavesAll s t
  pub walk : WalkState
  pub to : ℕ
  pub was : s.saver.stage ≡ Walking walk to
  pub at : ℕ
  pub more : next_place s.replica.lqh.rows walk.place ≡ Some at
  pub stage : t.saver.stage ≡ Walking (stepped s.replica.lqh.rows walk) to

-- it has passed all
pub record EndsWalk (s t : SavingState) : Type 0 where
  pub leaves : LeavesAll s t
  pub walk : WalkState
  pub to : ℕ
  pub was : s.saver.stage ≡ Walking walk to
  pub none : next_place s.replica.lqh.rows walk.place ≡ None
  pub stage :
      t.saver.stage
      ≡ Walked (finished_of walk (noted s.saver.floor s.replica.lqh.outlet)) (end_of s.replica.lqh.outlet)

-- the checkpoint is to be named, and the journal gives up what stands before it
pub record SwitchesTo (s t : SavingState) (finished : Finished) : Type 0 where
  pub end : ℕ
  pub was : s.saver.stage ≡ Walked finished end
  pub has : has_position s.replica.lqh.outlet finished.from ≡ true
  pub usable : is_usable s.saver s.replica.saved finished end ≡ true
  pub rows : t.replica.lqh.rows ≡ s.replica.lqh.rows
  pub outlet : t.replica.lqh.outlet ≡ outlet_from s.replica.lqh.outlet finished.from
  pub saved : t.replica.saved ≡ s.replica.saved
  pub floor : t.saver.floor ≡ finished.epoch
  pub named : t.saver.named ≡ s.saver.named + 1
  pub stage : t.saver.stage ≡ Resting

-- By this event, or by none, the rows of a node and their saver went from one state to another at a signal that says
-- this, and this is what there is to be done of a local checkpoint.
pub data IsStepBy (s t : SavingState) (body : Body) (it : Todo) (event : Option Event) : Type 0 where
  rows : IsMadeBy s.replica.lqh t.replica.lqh body event → KeepsStage s t → IsNoStep event → it ≡ todo.Nothing
      → IsStepBy s t body it event
  begins : BeginsWalk s t → event ≡ None → it ≡ todo.Nothing → IsStepBy s t body it event
  passes : (walks : PassesRows s t) → event ≡ Some Step
      → it ≡ todo.Write (next_piece s.replica.lqh.rows walks.walk) → IsStepBy s t body it event
  ends : EndsWalk s t → event ≡ None → it ≡ todo.Sync → IsStepBy s t body it event
  switches : (finished : Finished) → SwitchesTo s t finished → event ≡ None → it ≡ todo.Name finished
      → IsStepBy s t body it event

-- where the rows have noted a later epoch as saved, their saver knows where the journal ended; else it knows as before
abbrev pub NotesSaves : SavingState → SavingState → Type 0
NotesSaves s t =
    ((t.replica.saved ≡ s.replica.saved) × (t.saver.saved_end ≡ s.saver.saved_end))
    ⊎ ((s.replica.saved < t.replica.saved) × (t.saver.saved_end ≡ end_of t.replica.lqh.outlet))

-- the pieces that were written in all, and then what there was to do of a step: a piece at the front of its file begins
-- a checkpoint
abbrev pub written_by : Todo → List Piece → List Piece
written_by (todo.Write piece) pieces = if piece.at == 0 then piece ∷ [] else pieces ++ piece ∷ []
written_by it pieces = pieces

-- an epoch is durable, or a later one, as this signal says
abbrev pub TellsDone : ℕ → Body → Type 0
TellsDone epoch (Epoch (GcpDone at)) = epoch ≤ at
TellsDone epoch body = ⊥

-- where a host stops by a step there is nothing to be done of it
abbrev pub todo_unless : Bool → Todo → Todo
todo_unless true it = todo.Nothing
todo_unless false it = it

module _ (start : Start) (member : Member) where
  -- what there is to be done of a local checkpoint of the newest step of a log
  abbrev pub todo_at : HostStep → List HostStep → Todo
  todo_at e log =
      todo_unless (stops_by e.step.marks)
      (todo_in (after start (ldm_of start member) (e ∷ log)) (Some e.step.taken))

  -- the pieces of the newest checkpoint that was begun, as a disk was told to write them, the oldest first
  abbrev pub written : List HostStep → List Piece
  written [] = []
  written (e ∷ log) = written_by (todo_at e log) (written log)

  -- the life starts from the epoch or a later one, or a signal of the log said that it is durable, and was well formed
  abbrev pub IsToldDone : List HostStep → ℕ → Type 0
  IsToldDone [] epoch = epoch ≤ start.start_epoch
  IsToldDone (e ∷ log) epoch =
      ((is_well_formed start.shape e.step.taken ≡ true) × TellsDone epoch e.step.taken.body) ⊎ IsToldDone log epoch
