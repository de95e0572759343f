-- What a step of the rows and their saver comes to for the rows.
use Rattle.std.specs.Prelude.{◌≡◌, ℕ, true}
use Rattle.sig_core.specs.declared.signal.Body.TheVariants.{Checkpoint}
use Rattle.sig_core.specs.declared.signal.Signal.{Signal}
use Rattle.sig_core.specs.declared.signal.checkpoint.CheckpointSignal.TheVariants.{LcpSwitch}
use Rattle.sig_core.specs.declared.walk.Finished.{Finished}
use Rattle.sig_core.specs.Step.{Step}
use Rattle.lqh_views.specs.Replica.{replica_row}
use Rattle.lqh_saver.specs.declared.stage.Stage.TheVariants.{Walked}
use Rattle.lqh_saver.specs.declared.stage.Todo.TheVariants.{Name, Nothing}
use Rattle.lqh_saver.specs.Saver.{saver_row}
use Rattle.lqh_saver.specs.State.{SavingState}
use Rattle.lqh_saver.specs.Switching.{given_up, has_position, is_usable}

-- the rows are as they were, and no redo is given up
pub record LeavesRows (s : SavingState) (t : Step SavingState) : Type 0 where
  pub rows : t.state.replica ≡ s.replica
  pub floor : t.state.saver.floor ≡ s.saver.floor

-- the rows took the signal, a local checkpoint is where it was, and there is nothing else to be done of the step
pub record TakesRows (s : SavingState) (x : Signal) (t : Step SavingState) : Type 0 where
  pub rows : t.state.replica ≡ (replica_row s.replica x).state
  pub effects : t.effects ≡ (replica_row s.replica x).effects
  pub stage : t.state.saver.stage ≡ s.saver.stage
  pub floor : t.state.saver.floor ≡ s.saver.floor
  pub todo : t.state.saver.todo ≡ Nothing

-- a checkpoint that was usable is to be named, and the journal alone gave up the redo before it
pub record GivesUp (s : SavingState) (x : Signal) (t : Step SavingState) : Type 0 where
  pub finished : Finished
  pub end : ℕ
  pub ordered : x.body ≡ Checkpoint LcpSwitch
  pub walked : s.saver.stage ≡ Walked finished end
  pub has : has_position s.replica.lqh.outlet finished.from ≡ true
  pub usable : is_usable s.saver s.replica.saved finished end ≡ true
  pub rows : t.state.replica ≡ given_up s.replica finished.from
  pub floor : t.state.saver.floor ≡ finished.epoch
  pub todo : t.state.saver.todo ≡ Name finished

pub data RowsCase (s : SavingState) (x : Signal) (t : Step SavingState) : Type 0 where
  leaves : LeavesRows s t → RowsCase s x t
  takes : TakesRows s x t → RowsCase s x t
  gives_up : GivesUp s x t → RowsCase s x t

abbrev pub StepsAreOfRows : Type 0
StepsAreOfRows = (s : SavingState) (x : Signal) → RowsCase s x (saver_row s x)
