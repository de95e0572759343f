-- The words of a master of checkpoints: all that it ever sends, and all that marks its steps.
use Rattle.std.specs.Prelude.{Bool, true, false}
use Rattle.sig_core.specs.declared.mark.Mark.{Mark}
use Rattle.sig_core.specs.declared.mark.Mark.TheVariants.{Closed, Durable, Stopped}
use Rattle.sig_core.specs.declared.outcome.StopCause.TheVariants.{Clock}
use Rattle.sig_core.specs.declared.signal.Body.{Body}
use Rattle.sig_core.specs.declared.signal.Body.TheVariants.{Host, Epoch, Checkpoint}
use Rattle.sig_core.specs.declared.signal.Signal.{Signal}
use Rattle.sig_core.specs.declared.signal.checkpoint.CheckpointSignal.TheVariants.{LcpFragOrd, LcpSwitch, LcpRep}
use Rattle.sig_core.specs.declared.signal.epoch.EpochSignal.TheVariants.{GcpStateReq, GcpPrepare, GcpCommit, GcpClosed}
use Rattle.sig_core.specs.declared.signal.epoch.EpochSignal.TheVariants.{GcpSaveReq, CopyGciReq, GcpDone, GcpRep}
use Rattle.sig_core.specs.declared.signal.epoch.EpochSignal.TheVariants.{MicroRep}
use Rattle.sig_core.specs.declared.signal.host.HostSignal.TheVariants.{Continue}
use Rattle.sig_core.specs.declared.signal.host.Work.TheVariants.{Members}
use Rattle.step_forms.specs.Does.{Speaks}
use Rattle.gcp_master.specs.Master.{master_row}
use Rattle.gcp_master.specs.State.{MasterState}

-- it orders, reports to the client and to the copying of its node, and tells itself to go on with its list
abbrev pub is_master_word : Body → Bool
is_master_word (Epoch GcpStateReq) = true
is_master_word (Epoch (GcpPrepare epoch next)) = true
is_master_word (Epoch (GcpCommit epoch next)) = true
is_master_word (Epoch (GcpClosed epoch)) = true
is_master_word (Epoch (GcpSaveReq epoch)) = true
is_master_word (Epoch (CopyGciReq epoch mask)) = true
is_master_word (Epoch (GcpDone epoch)) = true
is_master_word (Epoch (GcpRep epoch)) = true
is_master_word (Epoch (MicroRep epoch)) = true
is_master_word (Checkpoint LcpFragOrd) = true
is_master_word (Checkpoint LcpSwitch) = true
is_master_word (Checkpoint (LcpRep epoch)) = true
is_master_word (Host (Continue Members at)) = true
is_master_word _ = false

-- it marks that an epoch is closed, or durable, and stops where the numbers of epochs are used up
abbrev pub is_master_mark : Mark → Bool
is_master_mark (Closed epoch) = true
is_master_mark (Durable epoch) = true
is_master_mark (Stopped Clock) = true
is_master_mark _ = false

-- whatever it takes; where a view is installed it sends and marks nothing
abbrev pub MasterKeepsToItsWords : Type 0
MasterKeepsToItsWords = (s : MasterState) (x : Signal) → Speaks is_master_word is_master_mark (master_row s x)
