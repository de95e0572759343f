-- Where the numbers of epochs are used up: a closing was to begin, and no epoch follows. A mark tells of it too.
use Rattle.std.specs.Prelude.{ℕ, ◌==◌, ◌&&◌, Bool, true, false, Option, None, Some}
use Rattle.sig_core.specs.declared.outcome.StopCause.{StopCause}
use Rattle.sig_core.specs.declared.outcome.StopCause.TheVariants.{Clock}
use Rattle.sig_core.specs.declared.signal.Body.{Body}
use Rattle.sig_core.specs.declared.signal.Body.TheVariants.{Epoch, Checkpoint}
use Rattle.sig_core.specs.declared.signal.Signal.{Signal}
use Rattle.sig_core.specs.declared.signal.checkpoint.CheckpointSignal.{CheckpointSignal}
use Rattle.sig_core.specs.declared.signal.checkpoint.CheckpointSignal.TheVariants.{LcpFragRep}
use Rattle.sig_core.specs.declared.signal.epoch.EpochSignal.{EpochSignal}
use Rattle.sig_core.specs.declared.signal.epoch.EpochSignal.TheVariants.{GcpReq, MicroReq, GcpClosedConf}
use Rattle.sig_core.specs.declared.signal.epoch.EpochSignal.TheVariants.{CopyGciConf, GcpStateConf}
use Rattle.gcp_master.specs.declared.known.Known.{Known}
use Rattle.gcp_master.specs.declared.known.Told.{Told}
use Rattle.gcp_master.specs.declared.local.LocalStage.{LocalStage}
use Rattle.gcp_master.specs.declared.local.LocalStage.TheVariants.{Walking}
use Rattle.gcp_master.specs.declared.local.LocalStage.TheVariants as stage
use Rattle.gcp_master.specs.declared.orders.Ended.{Ended}
use Rattle.gcp_master.specs.declared.orders.Ended.TheVariants.{Micro, Global}
use Rattle.gcp_master.specs.declared.phase.Asked.{Asked}
use Rattle.gcp_master.specs.declared.phase.Phase.{Phase}
use Rattle.gcp_master.specs.declared.phase.Phase.TheVariants.{Gathering, Resting, Closing, Copying}
use Rattle.gcp_master.specs.declared.phase.Run.{Run}
use Rattle.gcp_master.specs.declared.voices.Voice.{Voice}
use Rattle.gcp_master.specs.Begin.{begun}
use Rattle.gcp_master.specs.Closing.{switching}
use Rattle.gcp_master.specs.Known.{resumed}
use Rattle.gcp_master.specs.Local.{all_local, counted_local, counts_local}
use Rattle.gcp_master.specs.Master.{told}
use Rattle.gcp_master.specs.Numbers.{is_first}
use Rattle.gcp_master.specs.Requests.{global_asked, local_asked, micro_asked}
use Rattle.gcp_master.specs.Resume.{knowing, learned_if}
use Rattle.gcp_master.specs.State.{MasterState, all_in, at_phase, at_stage, counted, counts}
use Rattle.gcp_master.specs.Voices.{is_among}

-- where it rests
abbrev pub spent_at : MasterState → Phase → Bool
spent_at s (Resting current) = (begun s current).spent
spent_at s _ = false

-- something more is asked for
unfoldable pub asked_spent : MasterState → Asked → Bool
asked_spent s asked = spent_at (record s { asked = asked }) s.phase

-- a block of a member has told how far it is
abbrev pub resumed_spent_if : MasterState → Known → Bool → Bool
resumed_spent_if s known true = spent_at s (resumed known)
resumed_spent_if s known false = false

abbrev pub state_spent_if : MasterState → Voice → Known → Bool → Bool
state_spent_if s voice known true =
    resumed_spent_if (knowing (counted s voice) known) known (all_in 2 (counted s voice))
state_spent_if s voice known false = false

abbrev pub state_spent_by : MasterState → Voice → Told → Phase → Bool
state_spent_by s voice told (Gathering known) =
    state_spent_if s voice (learned_if known told (is_among s.view.full voice.member)) (counts s voice)
state_spent_by s voice told _ = false

unfoldable pub state_spent : MasterState → Voice → Told → Bool
state_spent s voice told = state_spent_by s voice told s.phase

-- a closing has ended
abbrev pub ended_spent : MasterState → Run → Ended → Bool
ended_spent s run what = (begun (record (at_phase s (Resting run.next)) { front = Some what }) run.next).spent

-- a block of a member has noted that the epoch is closed
abbrev pub noted_spent_by : MasterState → Run → Bool → Bool
noted_spent_by s run true = false
noted_spent_by s run false = ended_spent s run (Micro run.epoch)

abbrev pub noted_spent_if : MasterState → Run → Bool → Bool
noted_spent_if s run true = noted_spent_by s run (is_first run.next)
noted_spent_if s run false = false

abbrev pub note_spent_if : MasterState → Voice → Run → Bool → Bool
note_spent_if s voice run true = noted_spent_if (counted s voice) run (all_in 2 (counted s voice))
note_spent_if s voice run false = false

abbrev pub note_spent_by : MasterState → Voice → ℕ → Phase → Bool
note_spent_by s voice epoch (Closing run) = note_spent_if s voice run (run.epoch == epoch && counts s voice)
note_spent_by s voice epoch _ = false

unfoldable pub note_spent : MasterState → Voice → ℕ → Bool
note_spent s voice epoch = note_spent_by s voice epoch s.phase

-- a member has written the system file
abbrev pub copied_spent_if : MasterState → Run → Bool → Bool
copied_spent_if s run true = ended_spent (switching s run) run (Global run.epoch run.copy run.local)
copied_spent_if s run false = false

abbrev pub copy_spent_if : MasterState → Voice → Run → Bool → Bool
copy_spent_if s voice run true = copied_spent_if (counted s voice) run (all_in 1 (counted s voice))
copy_spent_if s voice run false = false

abbrev pub copy_spent_by : MasterState → Voice → ℕ → Phase → Bool
copy_spent_by s voice epoch (Copying run) = copy_spent_if s voice run (run.epoch == epoch && counts s voice)
copy_spent_by s voice epoch _ = false

unfoldable pub copy_spent : MasterState → Voice → ℕ → Bool
copy_spent s voice epoch = copy_spent_by s voice epoch s.phase

-- the rows of a member have written what they had for a local checkpoint
abbrev pub walked_spent_if : MasterState → Bool → Bool
walked_spent_if s true = asked_spent (at_stage s stage.Closing) (local_asked s.asked)
walked_spent_if s false = false

abbrev pub hear_walk_spent_if : MasterState → Voice → Bool → Bool
hear_walk_spent_if s voice true = walked_spent_if (counted_local s voice) (all_local (counted_local s voice))
hear_walk_spent_if s voice false = false

abbrev pub walked_spent_by : MasterState → Voice → LocalStage → Bool
walked_spent_by s voice Walking = hear_walk_spent_if s voice (counts_local s voice)
walked_spent_by s voice _ = false

unfoldable pub walked_spent : MasterState → Voice → Bool
walked_spent s voice = walked_spent_by s voice s.local.stage

-- at each signal
abbrev pub epoch_spent : MasterState → Voice → EpochSignal → Bool
epoch_spent s voice (GcpReq by) = asked_spent s (global_asked s.asked voice.member.node)
epoch_spent s voice MicroReq = asked_spent s (micro_asked s.asked)
epoch_spent s voice (GcpStateConf current prepared next closed saved durable) =
    state_spent s voice (told current prepared next closed saved durable)
epoch_spent s voice (GcpClosedConf epoch) = note_spent s voice epoch
epoch_spent s voice (CopyGciConf epoch) = copy_spent s voice epoch
epoch_spent s voice _ = false

abbrev pub local_spent : MasterState → Voice → CheckpointSignal → Bool
local_spent s voice (LcpFragRep epoch) = walked_spent s voice
local_spent s voice _ = false

abbrev pub body_spent : MasterState → Voice → Body → Bool
body_spent s voice (Epoch signal) = epoch_spent s voice signal
body_spent s voice (Checkpoint signal) = local_spent s voice signal
body_spent s voice _ = false

-- so why the master has its host stop
abbrev pub stop_if : Bool → Option StopCause
stop_if true = Some Clock
stop_if false = None

abbrev pub master_stops : MasterState → Signal → Option StopCause
master_stops s x = stop_if (body_spent s (record { member = x.member; from = x.from }) x.body)
