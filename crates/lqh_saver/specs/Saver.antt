-- What the rows of a node and their saver do, signal by signal.
use Rattle.std.specs.Prelude.{ℕ, ◌==◌, if◌then◌else◌, nat_lt}
use Rattle.sig_core.specs.declared.signal.Body.{Body}
use Rattle.sig_core.specs.declared.signal.Body.TheVariants.{Checkpoint, Epoch, Host}
use Rattle.sig_core.specs.declared.signal.Signal.{Signal}
use Rattle.sig_core.specs.declared.signal.checkpoint.CheckpointSignal.TheVariants.{LcpFragOrd, LcpSwitch}
use Rattle.sig_core.specs.declared.signal.epoch.EpochSignal.TheVariants.{GcpDone}
use Rattle.sig_core.specs.declared.signal.host.HostSignal.TheVariants.{Continue}
use Rattle.sig_core.specs.declared.signal.host.Work.TheVariants.{Walk}
use Rattle.sig_core.specs.declared.view.View.{View}
use Rattle.sig_core.specs.Journal.{end_of}
use Rattle.sig_core.specs.Step.{Step}
use Rattle.lqh_views.specs.Replica.{installed, replica_row}
use Rattle.lqh_views.specs.State.{ReplicaState}
use Rattle.lqh_saver.specs.declared.stage.Stage.TheVariants.{Resting}
use Rattle.lqh_saver.specs.declared.stage.Todo.TheVariants.{Nothing}
use Rattle.lqh_saver.specs.State.{SaverState, SavingState, idle, saving, told_durable, with_saved_end, with_stage}
use Rattle.lqh_saver.specs.Switching.{switch_row}
use Rattle.lqh_saver.specs.Walking.{order_row, walk_if}

-- a saver before the first signal, in a life that starts from an epoch, and with a journal that ends here
abbrev pub fresh_saver : ℕ → ℕ → SaverState
fresh_saver start end =
    record { durable = start; floor = start; saved_end = end; named = 0; stage = Resting; todo = Nothing }

-- the rows may have noted a later epoch as saved than before: then all of the journal is
abbrev pub noticing : SaverState → ℕ → ReplicaState → SaverState
noticing v saved t = if nat_lt saved t.saved then with_saved_end v (end_of t.lqh.outlet) else v

-- a step of the rows, and what their saver notices of it
abbrev pub in_rows : SavingState → Step ReplicaState → Step SavingState
in_rows s t =
    record { state = saving t.state (noticing s.saver s.replica.saved t.state); effects = t.effects }

-- the rows take the signal
abbrev pub passed : SavingState → Signal → Step SavingState
passed s x = in_rows s (replica_row s.replica x)

abbrev pub idling : SavingState → SavingState
idling s = saving s.replica (idle s.saver)

abbrev pub with_durable : SavingState → ℕ → SavingState
with_durable s epoch = saving s.replica (told_durable s.saver epoch)

-- what they do, by what a signal says
abbrev pub saver_by : SavingState → Signal → Body → Step SavingState
saver_by s x (Checkpoint LcpFragOrd) = order_row s x.member.node
saver_by s x (Checkpoint LcpSwitch) = switch_row s x.member.node
saver_by s x (Host (Continue Walk at)) = walk_if s (x.view.number == s.replica.lqh.layout.view.number)
saver_by s x (Epoch (GcpDone epoch)) = passed (with_durable s epoch) x
saver_by s x _ = passed s x

-- What they do at each signal. What a disk was to do of the step before is done.
abbrev pub saver_row : SavingState → Signal → Step SavingState
saver_row s x = saver_by (idling s) x x.body

-- a view is installed: a local checkpoint that is under way, or waits for its switch, is given up
abbrev pub saver_installed : SavingState → View → SavingState
saver_installed s view = saving (installed s.replica view) (with_stage s.saver Resting Nothing)
