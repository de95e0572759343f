-- Which signals a fence stops.
use Rattle.std.specs.Prelude.{ℕ, ◌==◌, Bool, true, false, not}
use Rattle.sig_core.specs.declared.signal.Body.{Body}
use Rattle.sig_core.specs.declared.signal.Body.TheVariants.{Chain, Takeover, Epoch, Checkpoint, Joining, Copying}
use Rattle.sig_core.specs.declared.signal.Body.TheVariants.{Backup}
use Rattle.sig_core.specs.declared.signal.Signal.{Signal}
use Rattle.sig_core.specs.declared.signal.checkpoint.CheckpointSignal.TheVariants.{LcpReq, LcpRep}
use Rattle.sig_core.specs.declared.signal.epoch.EpochSignal.{EpochSignal}
use Rattle.sig_core.specs.declared.signal.epoch.EpochSignal.TheVariants.{DiVerifyReq, DiVerifyConf, DiVerifyEnd, GcpReq}
use Rattle.sig_core.specs.declared.signal.epoch.EpochSignal.TheVariants.{GcpRep, MicroReq, MicroRep}
use Rattle.sig_core.specs.declared.signal.joining.JoiningSignal.{JoiningSignal}
use Rattle.sig_core.specs.declared.signal.joining.JoiningSignal.TheVariants.{StartReq, StartRep, StartEnd, StartGone}

-- of epochs and checkpoints, by the nodes that a signal comes from and is for: what a coordinator asks for passes, and
-- so
-- does what the shell, which is node 0, asks for and is answered
abbrev pub is_epoch_fenced : ℕ → ℕ → EpochSignal → Bool
is_epoch_fenced from to (DiVerifyReq tx ops) = false
is_epoch_fenced from to (DiVerifyConf tx epoch) = false
is_epoch_fenced from to (DiVerifyEnd tx) = false
is_epoch_fenced from to MicroReq = false
is_epoch_fenced from to (MicroRep epoch) = false
is_epoch_fenced from to (GcpReq by) = not (from == 0)
is_epoch_fenced from to (GcpRep epoch) = not (to == 0)
is_epoch_fenced from to _ = true

-- of starts: what the shell asks for, and what it is answered, passes
abbrev pub is_joining_fenced : JoiningSignal → Bool
is_joining_fenced (StartReq member own) = false
is_joining_fenced (StartRep member) = false
is_joining_fenced (StartEnd member) = false
is_joining_fenced (StartGone member) = false
is_joining_fenced _ = true

abbrev pub is_body_fenced : Signal → Body → Bool
is_body_fenced x (Chain signal) = true
is_body_fenced x (Takeover signal) = true
is_body_fenced x (Epoch signal) = is_epoch_fenced x.member.node x.to.node signal
is_body_fenced x (Checkpoint LcpReq) = false
is_body_fenced x (Checkpoint (LcpRep epoch)) = false
is_body_fenced x (Checkpoint signal) = true
is_body_fenced x (Joining signal) = is_joining_fenced signal
is_body_fenced x (Copying signal) = true
is_body_fenced x (Backup signal) = true
is_body_fenced x _ = false

-- signals of this kind are dropped where they come from a view below the fence of the block that they are for
unfoldable pub is_fenced : Signal → Bool
is_fenced x = is_body_fenced x x.body
