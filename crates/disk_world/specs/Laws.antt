-- What is true of what a step of a host comes to for its rows and their saver, and of what a disk has to do of a local
-- checkpoint.
use Rattle.std.specs.Prelude.{◌≡◌, ◌⊎◌, ℕ, Bool, true, false, Some}
use Rattle.std.specs.List.{list_any}
use Rattle.sig_core.specs.declared.place.BlockId.TheVariants as block
use Rattle.sig_core.specs.declared.signal.Signal.{Signal}
use Rattle.lqh_saver.specs.declared.stage.Todo.{Todo}
use Rattle.lqh_saver.specs.declared.stage.Todo.TheVariants as todo
use Rattle.lqh_saver.specs.Saver.{saver_installed, saver_row}
use Rattle.lqh_saver.specs.State.{SavingState, saving}
use Rattle.node_views.specs.declared.host_body.HostBody.{HostBody}
use Rattle.node_views.specs.declared.ldm_part.LdmPart.{LdmPart}
use Rattle.node_views.specs.declared.parts.Parts.TheVariants.{Ldm}
use Rattle.node_views.specs.Parts.{ldm_entered, ldm_row}
use Rattle.node_views.specs.Row.{host_row, is_stop}
use Rattle.world_views.specs.Machine.{step_by, stops_by, told}
use Rattle.disk_world.specs.Keeping.{todo_in}

-- the rows before they take a signal: as they were, or with its view installed
abbrev pub IsBetween : LdmPart → Signal → LdmPart → Type 0
IsBetween p x between = (between ≡ p) ⊎ (between ≡ (ldm_entered p x.view).state)

-- The rows take nothing, and nothing is to be done; or they take the signal, and then that which their saver came to in
-- this very step.
pub data TodoCase (p : LdmPart) (x : Signal) (t : HostBody) : Type 0 where
  rests : (between : LdmPart) → IsBetween p x between → t.parts ≡ Ldm between → todo_in t (Some x) ≡ todo.Nothing
      → TodoCase p x t
  takes : (between : LdmPart) → IsBetween p x between → x.to.block ≡ block.Lqh
      → t.parts ≡ Ldm (ldm_row between block.Lqh x).state
      → todo_in t (Some x) ≡ (ldm_row between block.Lqh x).state.saver.todo → TodoCase p x t

-- of each step of a host with rows that goes on
abbrev pub CheckpointsAreOfTheirSteps : Type 0
CheckpointsAreOfTheirSteps =
    (s : HostBody) (x : Signal) (p : LdmPart) → s.parts ≡ Ldm p → list_any is_stop (host_row s x).effects.marks ≡ false
    → TodoCase p x (host_row s x).state

-- The same of any step: where it stops its host the rows take nothing.
pub data StepCase (p : LdmPart) (x : Signal) (t : HostBody) (stopped : Bool) : Type 0 where
  stops : (between : LdmPart) → IsBetween p x between → t.parts ≡ Ldm between → stopped ≡ true
      → StepCase p x t stopped
  goes_on : stopped ≡ false → TodoCase p x t → StepCase p x t stopped

-- the rows of a part, and their saver
abbrev pub rows_in : LdmPart → SavingState
rows_in p = saving p.replica p.saver

-- before they take a signal: as they were, or with its view installed
abbrev pub IsBefore : SavingState → Signal → SavingState → Type 0
IsBefore s x between = (between ≡ s) ⊎ (between ≡ saver_installed s x.view)

-- What a step of a host comes to for its rows and their saver, and what there is to be done of it. They take nothing,
-- as where it stops the host, or the signal.
pub data SavingCase (s : SavingState) (x : Signal) (t : SavingState) (stopped : Bool) (it : Todo) : Type 0 where
  stops_host : stopped ≡ true → IsBefore s x t → SavingCase s x t stopped it
  rows_rest : stopped ≡ false → IsBefore s x t → it ≡ todo.Nothing → SavingCase s x t stopped it
  rows_take : stopped ≡ false → (between : SavingState) → IsBefore s x between → t ≡ (saver_row between x).state
      → it ≡ (saver_row between x).state.saver.todo → SavingCase s x t stopped it

-- the host has rows behind the step, too
pub record StepOfRows (p : LdmPart) (x : Signal) (t : HostBody) (stopped : Bool) : Type 0 where
  pub part : LdmPart
  pub is : t.parts ≡ Ldm part
  pub case : SavingCase (rows_in p) x (rows_in part) stopped (todo_in t (Some x))

-- of each step that a host with rows may make
abbrev pub RowsStepWithTheirSaver : Type 0
RowsStepWithTheirSaver =
    (h : ℕ) (s : HostBody) (x : Signal) (p : LdmPart) → s.parts ≡ Ldm p
    → StepOfRows p x (told h (step_by h s x)) (stops_by (step_by h s x).effects.marks)
