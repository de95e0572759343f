-- What is read of these is what is written.
use Rattle.std.proofs.Common.{refl}
use Rattle.sig_core.specs.declared.signal.Body.TheVariants.{Backup}
use Rattle.sig_core.specs.declared.signal.backup.BackupSignal.TheVariants.{BackupReq, BackupStart, BackupOn, BackupOff}
use Rattle.sig_core.specs.declared.signal.backup.BackupSignal.TheVariants.{BackupChange, BackupScanConf, BackupStop}
use Rattle.sig_core.specs.declared.signal.backup.BackupSignal.TheVariants.{BackupConf, BackupRep, BackupRef}
use Rattle.trace_bytes.specs.BackupSignals.{backed_up_of, backup_of, backup_signal_bytes}
use Rattle.trace_bytes.specs.Bodies.{IsBody, body_bytes}
use Rattle.trace_bytes.proofs.Taken.{TakesKind, last_kind, last_plain, or_kind, or_plain, takes_both}
use Rattle.trace_bytes.proofs.WordsTaken.{takes_change, takes_u32, takes_u64}

pub backup_taken : TakesKind IsBody body_bytes backup_of 109 114
unfolding backup_signal_bytes backup_of
backup_taken =
    or_kind IsBody body_bytes 109 (λ x. Backup (BackupReq x)) takes_u32 (λ x fits. fits) (λ x fits. refl)
    (or_kind IsBody body_bytes 110 (λ x. Backup (BackupStart x)) takes_u32 (λ x fits. fits) (λ x fits. refl)
    (or_plain IsBody body_bytes 111 (Backup BackupOn) tt refl
    (or_plain IsBody body_bytes 112 (Backup BackupOff) tt refl
    (or_kind IsBody body_bytes 113 (λ x. Backup (BackupChange x.0 x.1)) (takes_both takes_u64 takes_change)
    (λ x fits. (fits.0, fits.1)) (λ x fits. refl)
    (last_plain IsBody body_bytes 114 (Backup BackupScanConf) tt refl)))))

pub backed_up_taken : TakesKind IsBody body_bytes backed_up_of 115 118
unfolding backup_signal_bytes backed_up_of
backed_up_taken =
    or_kind IsBody body_bytes 115 (λ x. Backup (BackupStop x)) takes_u64 (λ x fits. fits) (λ x fits. refl)
    (or_plain IsBody body_bytes 116 (Backup BackupConf) tt refl
    (or_kind IsBody body_bytes 117 (λ x. Backup (BackupRep x.0 x.1)) (takes_both takes_u32 takes_u64)
    (λ x fits. (fits.0, fits.1)) (λ x fits. refl)
    (last_kind IsBody body_bytes 118 (λ x. Backup (BackupRef x.0 x.1)) (takes_both takes_u32 takes_u64)
    (λ x fits. (fits.0, fits.1)) (λ x fits. refl))))
