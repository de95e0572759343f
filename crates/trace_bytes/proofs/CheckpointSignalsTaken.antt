-- What is read of these is what is written.
use Rattle.std.proofs.Common.{refl}
use Rattle.sig_core.specs.declared.signal.Body.TheVariants.{Checkpoint}
use Rattle.sig_core.specs.declared.signal.checkpoint.CheckpointSignal.TheVariants.{LcpReq, LcpFragOrd, LcpFragRep}
use Rattle.sig_core.specs.declared.signal.checkpoint.CheckpointSignal.TheVariants.{LcpSwitch, LcpSwitchConf, LcpRep}
use Rattle.trace_bytes.specs.CheckpointSignals.{checkpoint_of, checkpoint_signal_bytes}
use Rattle.trace_bytes.specs.Bodies.{IsBody, body_bytes}
use Rattle.trace_bytes.proofs.Taken.{TakesKind, last_kind, or_kind, or_plain}
use Rattle.trace_bytes.proofs.WordsTaken.{takes_u64}

pub checkpoint_taken : TakesKind IsBody body_bytes checkpoint_of 68 73
unfolding checkpoint_signal_bytes checkpoint_of
checkpoint_taken =
    or_plain IsBody body_bytes 68 (Checkpoint LcpReq) tt refl
    (or_plain IsBody body_bytes 69 (Checkpoint LcpFragOrd) tt refl
    (or_kind IsBody body_bytes 70 (λ x. Checkpoint (LcpFragRep x)) takes_u64 (λ x fits. fits) (λ x fits. refl)
    (or_plain IsBody body_bytes 71 (Checkpoint LcpSwitch) tt refl
    (or_plain IsBody body_bytes 72 (Checkpoint LcpSwitchConf) tt refl
    (last_kind IsBody body_bytes 73 (λ x. Checkpoint (LcpRep x)) takes_u64 (λ x fits. fits) (λ x fits. refl))))))
