-- What the rows of a node are together with their saver.
use Rattle.std.specs.Prelude.{ℕ, if◌then◌else◌, nat_lt}
use Rattle.lqh_views.specs.State.{ReplicaState}
use Rattle.lqh_saver.specs.declared.stage.Stage.{Stage}
use Rattle.lqh_saver.specs.declared.stage.Todo.{Todo}
use Rattle.lqh_saver.specs.declared.stage.Todo.TheVariants.{Nothing}

-- The greatest epoch that it was told is durable; one above which no commit is whose redo was given up; where the
-- journal ended when the rows were saved last; how many checkpoints were named; how far a local checkpoint has come;
-- and what a disk is to do of the last step.
pub record SaverState : Type 0 where
  pub durable : ℕ
  pub floor : ℕ
  pub saved_end : ℕ
  pub named : ℕ
  pub stage : Stage
  pub todo : Todo

-- the rows, and their saver
pub record SavingState : Type 0 where
  pub replica : ReplicaState
  pub saver : SaverState

abbrev pub saving : ReplicaState → SaverState → SavingState
saving replica saver = record { replica = replica; saver = saver }

-- the greater of two
abbrev pub greater : ℕ → ℕ → ℕ
greater one other = if nat_lt one other then other else one

abbrev pub with_todo : SaverState → Todo → SaverState
with_todo v todo =
    record v { todo = todo }

-- a disk is to do nothing
abbrev pub idle : SaverState → SaverState
idle v = with_todo v Nothing

abbrev pub with_stage : SaverState → Stage → Todo → SaverState
with_stage v stage todo =
    record v { stage = stage; todo = todo }

-- an epoch is durable
abbrev pub told_durable : SaverState → ℕ → SaverState
told_durable v epoch =
    record v { durable = greater v.durable epoch }

-- the rows were saved, and the journal ended there
abbrev pub with_saved_end : SaverState → ℕ → SaverState
with_saved_end v end =
    record v { saved_end = end }
