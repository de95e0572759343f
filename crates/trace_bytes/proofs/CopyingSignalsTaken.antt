-- What is read of these is what is written.
use Rattle.std.proofs.Common.{refl}
use Rattle.sig_core.specs.declared.signal.Body.TheVariants.{Copying}
use Rattle.sig_core.specs.declared.signal.copying.CopyingSignal.TheVariants.{CopyFragReq, LqhScanReq, LqhScanConf}
use Rattle.sig_core.specs.declared.signal.copying.CopyingSignal.TheVariants.{CopyRowReq, CopyRowConf, LqhUnlock}
use Rattle.sig_core.specs.declared.signal.copying.CopyingSignal.TheVariants.{CopyFragConf, CopyKeyReq, CopyKeyConf}
use Rattle.sig_core.specs.declared.signal.copying.CopyingSignal.TheVariants.{CopyKeyRef}
use Rattle.trace_bytes.specs.CopyingSignals.{copying_of, copying_signal_bytes, own_rows_of}
use Rattle.trace_bytes.specs.Bodies.{IsBody, body_bytes}
use Rattle.trace_bytes.proofs.Taken.{TakesKind, last_plain, or_kind, or_plain, takes_both}
use Rattle.trace_bytes.proofs.WordsTaken.{takes_key, takes_member, takes_opt_row, takes_opt_u64, takes_row, takes_u64}
use Rattle.trace_bytes.proofs.WordsTaken.{takes_u8}

pub copying_taken : TakesKind IsBody body_bytes copying_of 81 87
unfolding copying_signal_bytes copying_of
copying_taken =
    or_kind IsBody body_bytes 81 (λ x. Copying (CopyFragReq x.0 x.1.0 x.1.1))
    (takes_both takes_member (takes_both takes_u8 takes_opt_u64)) (λ x fits. (fits.0, fits.1.0, fits.1.1))
    (λ x fits. refl)
    (or_kind IsBody body_bytes 82 (λ x. Copying (LqhScanReq x.0 x.1)) (takes_both takes_u8 takes_u64)
    (λ x fits. (fits.0, fits.1)) (λ x fits. refl)
    (or_kind IsBody body_bytes 83 (λ x. Copying (LqhScanConf x.0 x.1.0 x.1.1))
    (takes_both takes_opt_row (takes_both takes_u64 takes_opt_u64)) (λ x fits. (fits.0, fits.1.0, fits.1.1))
    (λ x fits. refl)
    (or_kind IsBody body_bytes 84 (λ x. Copying (CopyRowReq x.0 x.1)) (takes_both takes_row takes_u64)
    (λ x fits. (fits.0, fits.1)) (λ x fits. refl)
    (or_plain IsBody body_bytes 85 (Copying CopyRowConf) tt refl
    (or_kind IsBody body_bytes 86 (λ x. Copying (LqhUnlock x)) takes_key (λ x fits. fits) (λ x fits. refl)
    (last_plain IsBody body_bytes 87 (Copying CopyFragConf) tt refl))))))

pub own_rows_taken : TakesKind IsBody body_bytes own_rows_of 100 102
unfolding copying_signal_bytes own_rows_of
own_rows_taken =
    or_kind IsBody body_bytes 100 (λ x. Copying (CopyKeyReq x.0 x.1)) (takes_both takes_key takes_u64)
    (λ x fits. (fits.0, fits.1)) (λ x fits. refl)
    (or_plain IsBody body_bytes 101 (Copying CopyKeyConf) tt refl
    (last_plain IsBody body_bytes 102 (Copying CopyKeyRef) tt refl))
