-- What a master does, signal by signal.
use Rattle.std.specs.Prelude.{ℕ, Bool, true, false, [], None}
use Rattle.sig_core.specs.declared.member.Member.{Member}
use Rattle.sig_core.specs.declared.signal.Body.{Body}
use Rattle.sig_core.specs.declared.signal.Body.TheVariants.{Host, Takeover, Epoch, Checkpoint}
use Rattle.sig_core.specs.declared.signal.Signal.{Signal}
use Rattle.sig_core.specs.declared.signal.checkpoint.CheckpointSignal.{CheckpointSignal}
use Rattle.sig_core.specs.declared.signal.checkpoint.CheckpointSignal.TheVariants.{LcpReq, LcpFragRep, LcpSwitchConf}
use Rattle.sig_core.specs.declared.signal.epoch.EpochSignal.{EpochSignal}
use Rattle.sig_core.specs.declared.signal.epoch.EpochSignal.TheVariants.{GcpReq, MicroReq, GcpPrepareConf}
use Rattle.sig_core.specs.declared.signal.epoch.EpochSignal.TheVariants.{GcpNodeFinish, GcpClosedConf, GcpSaveConf}
use Rattle.sig_core.specs.declared.signal.epoch.EpochSignal.TheVariants.{CopyGciConf, GcpOrd, GcpStateConf}
use Rattle.sig_core.specs.declared.signal.host.HostSignal.TheVariants.{Continue}
use Rattle.sig_core.specs.declared.signal.host.Work.TheVariants.{Members}
use Rattle.sig_core.specs.declared.signal.takeover.TakeoverSignal.TheVariants.{TakeoverEnd}
use Rattle.sig_core.specs.declared.view.View.{View}
use Rattle.sig_core.specs.Step.{Step, stay}
use Rattle.gcp_master.specs.declared.known.Told.{Told}
use Rattle.gcp_master.specs.declared.phase.Phase.{Phase}
use Rattle.gcp_master.specs.declared.phase.Phase.TheVariants.{Unordered, Resting}
use Rattle.gcp_master.specs.declared.voices.Voice.{Voice}
use Rattle.gcp_master.specs.Closing.{copy_row, finish_row, note_row, prepare_row, save_row, takeover_row}
use Rattle.gcp_master.specs.Local.{switched_row, walk_row, walked_row}
use Rattle.gcp_master.specs.Requests.{asked_row, global_asked, micro_asked}
use Rattle.gcp_master.specs.Resume.{is_president, order_row, state_row}
use Rattle.gcp_master.specs.Sends.{go_on_row}
use Rattle.gcp_master.specs.State.{MasterState, no_local}

-- the president of the first view rests in the epoch in which a life begins; the other masters do nothing
abbrev pub first_phase : ℕ → Bool → Phase
first_phase epoch true = Resting epoch
first_phase epoch false = Unordered

-- a master that begins in this view, where no takeover has to end
abbrev pub fresh_master : Member → View → ℕ → MasterState
fresh_master member view epoch =
    record {
      member = member;
      view = view;
      phase = first_phase epoch (is_president member view);
      front = None;
      asked = record { global = false; copy = false; local = false; micro = false };
      owed = false;
      voices = [];
      local = no_local;
    }

-- what a block tells, as a signal has it
abbrev pub told : ℕ → ℕ → ℕ → ℕ → ℕ → ℕ → Told
told current prepared next closed saved durable =
    record {
      current = current;
      prepared = prepared;
      next = next;
      closed = closed;
      saved = saved;
      durable = durable;
    }

-- what the master does at a signal of epochs, by who sent it
abbrev pub epoch_table : MasterState → Voice → EpochSignal → Step MasterState
epoch_table s voice (GcpReq by) = asked_row s (global_asked s.asked voice.member.node)
epoch_table s voice MicroReq = asked_row s (micro_asked s.asked)
epoch_table s voice GcpOrd = order_row s
epoch_table s voice (GcpStateConf current prepared next closed saved durable) =
    state_row s voice (told current prepared next closed saved durable)
epoch_table s voice (GcpPrepareConf epoch) = prepare_row s voice epoch
epoch_table s voice (GcpNodeFinish epoch) = finish_row s voice epoch
epoch_table s voice (GcpClosedConf epoch) = note_row s voice epoch
epoch_table s voice (GcpSaveConf epoch) = save_row s voice epoch
epoch_table s voice (CopyGciConf epoch) = copy_row s voice epoch
epoch_table s voice _ = stay s

-- what it does at a signal of local checkpoints
abbrev pub local_table : MasterState → Voice → CheckpointSignal → Step MasterState
local_table s voice LcpReq = walk_row s
local_table s voice (LcpFragRep epoch) = walked_row s voice
local_table s voice LcpSwitchConf = switched_row s voice
local_table s voice _ = stay s

-- what it does, by who sent a signal, the number of the sender's view, and what the signal says. It leaves the others
-- alone
abbrev pub master_table : MasterState → Voice → ℕ → Body → Step MasterState
master_table s voice number (Host (Continue Members at)) = go_on_row s number at
master_table s voice number (Takeover TakeoverEnd) = takeover_row s
master_table s voice number (Epoch signal) = epoch_table s voice signal
master_table s voice number (Checkpoint signal) = local_table s voice signal
master_table s voice number _ = stay s

-- what it does at each signal
abbrev pub master_row : MasterState → Signal → Step MasterState
master_row s x = master_table s (record { member = x.member; from = x.from }) x.view.number x.body
