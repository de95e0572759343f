-- The walk of a local checkpoint over the rows.
use Rattle.std.specs.Prelude.{ℕ, Bool, true, false, Option, None, Some}
use Rattle.sig_core.specs.declared.signal.Body.TheVariants.{Checkpoint, Host}
use Rattle.sig_core.specs.declared.signal.checkpoint.CheckpointSignal.TheVariants.{LcpFragRep}
use Rattle.sig_core.specs.declared.signal.host.HostSignal.TheVariants.{Continue}
use Rattle.sig_core.specs.declared.signal.host.Work.TheVariants as work
use Rattle.sig_core.specs.declared.walk.Finished.{Finished}
use Rattle.sig_core.specs.Journal.{end_of}
use Rattle.sig_core.specs.Place.{checkpoints, rows_of}
use Rattle.sig_core.specs.Rows.{next_place}
use Rattle.sig_core.specs.Step.{Step, sending, stay}
use Rattle.sig_core.specs.Walk.{WalkState, begun, next_piece, stepped}
use Rattle.lqh_saver.specs.declared.stage.Stage.{Stage}
use Rattle.lqh_saver.specs.declared.stage.Stage.TheVariants.{Walking, Walked}
use Rattle.lqh_saver.specs.declared.stage.Todo.{Todo}
use Rattle.lqh_saver.specs.declared.stage.Todo.TheVariants as todo
use Rattle.lqh_saver.specs.Redo.{noted, oldest}
use Rattle.lqh_saver.specs.State.{SavingState, saving, with_stage}

-- the local checkpoint has come so far, and this is what a disk is to do
abbrev pub staged : SavingState → Stage → Todo → SavingState
staged s stage todo = saving s.replica (with_stage s.saver stage todo)

-- it has come so far, and goes on
abbrev pub going_on : SavingState → Stage → Todo → Step SavingState
going_on s stage todo = sending (staged s stage todo) (rows_of s.replica.lqh.node) (Host (Continue work.Walk 0))

-- A walk begins anew, for the master of this node, from the position of the oldest record that isn't finished. Which
-- file it is, the disk knows; and what is noted of epochs is counted at its end.
abbrev pub order_row : SavingState → ℕ → Step SavingState
order_row s from =
    going_on s (Walking (begun 0 (oldest s.replica.lqh.rows s.replica.lqh.outlet) s.saver.floor) from) todo.Nothing

-- what the walk comes to, where this epoch is the greatest of its rows
abbrev pub finished_of : WalkState → ℕ → Finished
finished_of walk epoch = record { file = walk.file; size = walk.size; from = walk.from; epoch = epoch }

-- all was passed, up to this epoch: the file is to be synced, and the master is told
abbrev pub ends_walk : SavingState → WalkState → ℕ → ℕ → Step SavingState
ends_walk s walk to epoch =
    sending (staged s (Walked (finished_of walk epoch) (end_of s.replica.lqh.outlet)) todo.Sync) (checkpoints to)
    (Checkpoint (LcpFragRep epoch))

-- the next piece is to be written, and the walk goes on; at its end all was passed
abbrev pub passes : SavingState → WalkState → ℕ → Option ℕ → Step SavingState
passes s walk to (Some at) =
    going_on s (Walking (stepped s.replica.lqh.rows walk) to) (todo.Write (next_piece s.replica.lqh.rows walk))
passes s walk to None = ends_walk s walk to (noted s.saver.floor s.replica.lqh.outlet)

abbrev pub walk_by : SavingState → Stage → Step SavingState
walk_by s (Walking walk to) = passes s walk to (next_place s.replica.lqh.rows walk.place)
walk_by s _ = stay s

abbrev pub walk_if : SavingState → Bool → Step SavingState
walk_if s true = walk_by s s.saver.stage
walk_if s false = stay s
