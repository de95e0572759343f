-- The bytes of signals of local checkpoints.
use Rattle.std.specs.Prelude.{ℕ, ◌==◌, nat_lt, if◌then◌else◌, List, [], ◌∷◌}
use Rattle.sig_core.specs.declared.signal.Body.{Body}
use Rattle.sig_core.specs.declared.signal.checkpoint.CheckpointSignal.{CheckpointSignal}
use Rattle.sig_core.specs.declared.signal.checkpoint.CheckpointSignal.TheVariants.{LcpReq, LcpFragOrd, LcpFragRep}
use Rattle.sig_core.specs.declared.signal.checkpoint.CheckpointSignal.TheVariants.{LcpSwitch, LcpSwitchConf, LcpRep}
use Rattle.sig_core.specs.declared.signal.Body.TheVariants.{Checkpoint}
use Rattle.redo_format.specs.Reading.{Reader, and_then, told, byte_at}
use Rattle.trace_bytes.specs.declared.kinds.signals.TheConstants as signals
use Rattle.trace_bytes.specs.Lists.{◌&◌}
use Rattle.trace_bytes.specs.Numbers.{IsU64, u64_at, u64_bytes}
use Rattle.trace_bytes.specs.Words.{always}

unfoldable pub checkpoint_signal_bytes : CheckpointSignal → List ℕ
checkpoint_signal_bytes LcpReq = signals.LCP_REQ ∷ []
checkpoint_signal_bytes LcpFragOrd = signals.LCP_FRAG_ORD ∷ []
checkpoint_signal_bytes (LcpFragRep epoch) = signals.LCP_FRAG_REP ∷ u64_bytes epoch
checkpoint_signal_bytes LcpSwitch = signals.LCP_SWITCH ∷ []
checkpoint_signal_bytes LcpSwitchConf = signals.LCP_SWITCH_CONF ∷ []
checkpoint_signal_bytes (LcpRep epoch) = signals.LCP_REP ∷ u64_bytes epoch

abbrev pub IsCheckpointSignal : CheckpointSignal → Type 0
IsCheckpointSignal LcpReq = Unit {0}
IsCheckpointSignal LcpFragOrd = Unit {0}
IsCheckpointSignal (LcpFragRep epoch) = IsU64 epoch
IsCheckpointSignal LcpSwitch = Unit {0}
IsCheckpointSignal LcpSwitchConf = Unit {0}
IsCheckpointSignal (LcpRep epoch) = IsU64 epoch

unfoldable pub checkpoint_of : ℕ → Reader Body
checkpoint_of number =
    if number == signals.LCP_REQ then always (Checkpoint LcpReq)
    else if number == signals.LCP_FRAG_ORD then always (Checkpoint LcpFragOrd)
    else if number == signals.LCP_FRAG_REP then told (λ x. Checkpoint (LcpFragRep x)) u64_at
    else if number == signals.LCP_SWITCH then always (Checkpoint LcpSwitch)
    else if number == signals.LCP_SWITCH_CONF then always (Checkpoint LcpSwitchConf)
    else (told (λ x. Checkpoint (LcpRep x)) u64_at)
