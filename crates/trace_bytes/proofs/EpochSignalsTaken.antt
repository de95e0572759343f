-- What is read of these is what is written.
use Rattle.std.proofs.Common.{refl}
use Rattle.sig_core.specs.declared.signal.Body.TheVariants.{Epoch}
use Rattle.sig_core.specs.declared.signal.epoch.EpochSignal.TheVariants.{DiVerifyReq, DiVerifyConf, DiVerifyEnd, GcpReq}
use Rattle.sig_core.specs.declared.signal.epoch.EpochSignal.TheVariants.{GcpPrepare, GcpPrepareConf, GcpCommit}
use Rattle.sig_core.specs.declared.signal.epoch.EpochSignal.TheVariants.{GcpNodeFinish, GcpSaveReq, GcpSaveConf}
use Rattle.sig_core.specs.declared.signal.epoch.EpochSignal.TheVariants.{CopyGciReq, CopyGciConf, GcpDone, GcpRep}
use Rattle.sig_core.specs.declared.signal.epoch.EpochSignal.TheVariants.{GcpOrd, GcpStateReq, GcpStateConf, MicroReq}
use Rattle.sig_core.specs.declared.signal.epoch.EpochSignal.TheVariants.{GcpClosed, MicroRep, GcpClosedConf}
use Rattle.trace_bytes.specs.EpochSignals.{closing_of, deciding_of, epoch_signal_bytes, micro_of, saving_of}
use Rattle.trace_bytes.specs.Bodies.{IsBody, body_bytes}
use Rattle.trace_bytes.proofs.Taken.{TakesKind, last_kind, or_kind, or_plain, takes_both}
use Rattle.trace_bytes.proofs.ListsTaken.{takes_list}
use Rattle.trace_bytes.proofs.OperationsTaken.{takes_answered}
use Rattle.trace_bytes.proofs.PlacesTaken.{takes_block}
use Rattle.trace_bytes.proofs.WordsTaken.{takes_tx, takes_u64, takes_u8}

pub deciding_taken : TakesKind IsBody body_bytes deciding_of 51 54
unfolding epoch_signal_bytes deciding_of
deciding_taken =
    or_kind IsBody body_bytes 51 (λ x. Epoch (DiVerifyReq x.0 x.1)) (takes_both takes_tx (takes_list takes_answered))
    (λ x fits. (fits.0, fits.1)) (λ x fits. refl)
    (or_kind IsBody body_bytes 52 (λ x. Epoch (DiVerifyConf x.0 x.1)) (takes_both takes_tx takes_u64)
    (λ x fits. (fits.0, fits.1)) (λ x fits. refl)
    (or_kind IsBody body_bytes 53 (λ x. Epoch (DiVerifyEnd x)) takes_tx (λ x fits. fits) (λ x fits. refl)
    (last_kind IsBody body_bytes 54 (λ x. Epoch (GcpReq x)) takes_block (λ x fits. fits) (λ x fits. refl))))

pub closing_taken : TakesKind IsBody body_bytes closing_of 55 60
unfolding epoch_signal_bytes closing_of
closing_taken =
    or_kind IsBody body_bytes 55 (λ x. Epoch (GcpPrepare x.0 x.1)) (takes_both takes_u64 takes_u64)
    (λ x fits. (fits.0, fits.1)) (λ x fits. refl)
    (or_kind IsBody body_bytes 56 (λ x. Epoch (GcpPrepareConf x)) takes_u64 (λ x fits. fits) (λ x fits. refl)
    (or_kind IsBody body_bytes 57 (λ x. Epoch (GcpCommit x.0 x.1)) (takes_both takes_u64 takes_u64)
    (λ x fits. (fits.0, fits.1)) (λ x fits. refl)
    (or_kind IsBody body_bytes 58 (λ x. Epoch (GcpNodeFinish x)) takes_u64 (λ x fits. fits) (λ x fits. refl)
    (or_kind IsBody body_bytes 59 (λ x. Epoch (GcpSaveReq x)) takes_u64 (λ x fits. fits) (λ x fits. refl)
    (last_kind IsBody body_bytes 60 (λ x. Epoch (GcpSaveConf x)) takes_u64 (λ x fits. fits) (λ x fits. refl))))))

pub saving_taken : TakesKind IsBody body_bytes saving_of 61 67
unfolding epoch_signal_bytes saving_of
saving_taken =
    or_kind IsBody body_bytes 61 (λ x. Epoch (CopyGciReq x.0 x.1)) (takes_both takes_u64 takes_u8)
    (λ x fits. (fits.0, fits.1)) (λ x fits. refl)
    (or_kind IsBody body_bytes 62 (λ x. Epoch (CopyGciConf x)) takes_u64 (λ x fits. fits) (λ x fits. refl)
    (or_kind IsBody body_bytes 63 (λ x. Epoch (GcpDone x)) takes_u64 (λ x fits. fits) (λ x fits. refl)
    (or_kind IsBody body_bytes 64 (λ x. Epoch (GcpRep x)) takes_u64 (λ x fits. fits) (λ x fits. refl)
    (or_plain IsBody body_bytes 65 (Epoch GcpOrd) tt refl
    (or_plain IsBody body_bytes 66 (Epoch GcpStateReq) tt refl
    (last_kind IsBody body_bytes 67 (λ x. Epoch (GcpStateConf x.0 x.1.0 x.1.1.0 x.1.1.1.0 x.1.1.1.1.0 x.1.1.1.1.1))
    (takes_both takes_u64 (takes_both takes_u64 (takes_both takes_u64
    (takes_both takes_u64 (takes_both takes_u64 takes_u64)))))
    (λ x fits. (fits.0, fits.1.0, fits.1.1.0, fits.1.1.1.0, fits.1.1.1.1.0, fits.1.1.1.1.1))
    (λ x fits. refl)))))))

pub micro_taken : TakesKind IsBody body_bytes micro_of 96 99
unfolding epoch_signal_bytes micro_of
micro_taken =
    or_plain IsBody body_bytes 96 (Epoch MicroReq) tt refl
    (or_kind IsBody body_bytes 97 (λ x. Epoch (GcpClosed x)) takes_u64 (λ x fits. fits) (λ x fits. refl)
    (or_kind IsBody body_bytes 98 (λ x. Epoch (MicroRep x)) takes_u64 (λ x fits. fits) (λ x fits. refl)
    (last_kind IsBody body_bytes 99 (λ x. Epoch (GcpClosedConf x)) takes_u64 (λ x fits. fits) (λ x fits. refl))))
