-- A local checkpoint takes the place of the one before, and redo is given up.
use Rattle.std.specs.Prelude.{ℕ, ◌+◌, ◌-◌, ◌&&◌, Bool, true, false, nat_le, nat_lt, drop}
use Rattle.sig_core.specs.declared.signal.Body.TheVariants.{Checkpoint}
use Rattle.sig_core.specs.declared.signal.checkpoint.CheckpointSignal.TheVariants.{LcpSwitchConf}
use Rattle.sig_core.specs.declared.walk.Finished.{Finished}
use Rattle.sig_core.specs.Journal.{OutletState, end_of, used_from}
use Rattle.sig_core.specs.Place.{checkpoints}
use Rattle.sig_core.specs.Step.{Step, sending, stay}
use Rattle.lqh_block.specs.State.{with_journal}
use Rattle.lqh_views.specs.State.{ReplicaState, with_lqh}
use Rattle.lqh_saver.specs.declared.stage.Stage.{Stage}
use Rattle.lqh_saver.specs.declared.stage.Stage.TheVariants.{Resting, Walked}
use Rattle.lqh_saver.specs.declared.stage.Todo.TheVariants.{Name}
use Rattle.lqh_saver.specs.declared.switching.TheConstants.{CHECKPOINTS, POSITIONS}
use Rattle.lqh_saver.specs.State.{SaverState, SavingState, saving}

-- what stands from a position on is all that there is to give out
abbrev pub outlet_from : OutletState → ℕ → OutletState
outlet_from o at =
    record { keeps = o.keeps; parity = o.parity; flushed = at; left = drop (at - o.flushed) o.left }

-- the journal gives up what stands before a position, and what is used counts from there
abbrev pub given_up : ReplicaState → ℕ → ReplicaState
given_up s at =
    with_lqh s
    (with_journal s.lqh (used_from s.lqh.journal s.lqh.outlet at) (outlet_from s.lqh.outlet at))

-- the journal still has the position
abbrev pub has_position : OutletState → ℕ → Bool
has_position o at = nat_le o.flushed at && nat_le at (end_of o)

-- there are numbers left for the slot that names it
abbrev pub has_numbers : SaverState → Finished → Bool
has_numbers v finished =
    nat_lt finished.from POSITIONS && nat_lt finished.size POSITIONS && nat_lt v.named CHECKPOINTS

-- The checkpoint is good for what is saved, which is up to this epoch: the rows were saved behind its end, and what is
-- saved is durable. So a restart comes to no epoch before that of its rows, nor before the one that its slot tells.
abbrev pub is_usable : SaverState → ℕ → Finished → ℕ → Bool
is_usable v saved finished end =
    nat_le finished.from v.saved_end && nat_le end v.saved_end && nat_le saved v.durable
    && nat_le finished.epoch saved && has_numbers v finished

-- no commit that is given up is of a later epoch than the checkpoint, and nothing is under way
abbrev pub switched : SaverState → Finished → SaverState
switched v finished =
    record v { floor = finished.epoch; named = v.named + 1; stage = Resting; todo = Name finished }

abbrev pub switch_if : SavingState → ℕ → Finished → Bool → Step SavingState
switch_if s from finished true =
    sending (saving (given_up s.replica finished.from) (switched s.saver finished)) (checkpoints from)
    (Checkpoint LcpSwitchConf)
switch_if s from finished false = stay s

abbrev pub switch_by : SavingState → ℕ → Stage → Step SavingState
switch_by s from (Walked finished end) =
    switch_if s from finished
    (has_position s.replica.lqh.outlet finished.from && is_usable s.saver s.replica.saved finished end)
switch_by s from _ = stay s

-- the checkpoint that was written is to be named, if it is usable
abbrev pub switch_row : SavingState → ℕ → Step SavingState
switch_row s from = switch_by s from s.saver.stage
