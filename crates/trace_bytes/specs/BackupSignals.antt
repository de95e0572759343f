-- The bytes of signals by which a backup is taken.
use Rattle.std.specs.Prelude.{ℕ, ◌==◌, nat_lt, if◌then◌else◌, List, [], ◌∷◌}
use Rattle.sig_core.specs.declared.signal.backup.BackupSignal.{BackupSignal}
use Rattle.sig_core.specs.declared.signal.Body.{Body}
use Rattle.sig_core.specs.declared.signal.backup.BackupSignal.TheVariants.{BackupReq, BackupStart, BackupOn, BackupOff}
use Rattle.sig_core.specs.declared.signal.backup.BackupSignal.TheVariants.{BackupChange, BackupScanConf, BackupStop}
use Rattle.sig_core.specs.declared.signal.backup.BackupSignal.TheVariants.{BackupConf, BackupRep, BackupRef}
use Rattle.sig_core.specs.declared.signal.Body.TheVariants.{Backup}
use Rattle.redo_format.specs.Reading.{Reader, and_then, told, byte_at}
use Rattle.trace_bytes.specs.declared.kinds.signals.TheConstants as signals
use Rattle.trace_bytes.specs.Lists.{◌&◌}
use Rattle.trace_bytes.specs.Numbers.{IsU32, IsU64, u32_at, u32_bytes, u64_at, u64_bytes}
use Rattle.trace_bytes.specs.Words.{IsChange, always, change_at, change_bytes}

unfoldable pub backup_signal_bytes : BackupSignal → List ℕ
backup_signal_bytes (BackupReq backup) = signals.BACKUP_REQ ∷ u32_bytes backup
backup_signal_bytes (BackupStart backup) = signals.BACKUP_START ∷ u32_bytes backup
backup_signal_bytes BackupOn = signals.BACKUP_ON ∷ []
backup_signal_bytes BackupOff = signals.BACKUP_OFF ∷ []
backup_signal_bytes (BackupChange epoch change) = signals.BACKUP_CHANGE ∷ u64_bytes epoch & change_bytes change
backup_signal_bytes BackupScanConf = signals.BACKUP_SCAN_CONF ∷ []
backup_signal_bytes (BackupStop epoch) = signals.BACKUP_STOP ∷ u64_bytes epoch
backup_signal_bytes BackupConf = signals.BACKUP_CONF ∷ []
backup_signal_bytes (BackupRep backup epoch) = signals.BACKUP_REP ∷ u32_bytes backup & u64_bytes epoch
backup_signal_bytes (BackupRef backup size) = signals.BACKUP_REF ∷ u32_bytes backup & u64_bytes size

abbrev pub IsBackupSignal : BackupSignal → Type 0
IsBackupSignal (BackupReq backup) = IsU32 backup
IsBackupSignal (BackupStart backup) = IsU32 backup
IsBackupSignal BackupOn = Unit {0}
IsBackupSignal BackupOff = Unit {0}
IsBackupSignal (BackupChange epoch change) = IsU64 epoch × IsChange change
IsBackupSignal BackupScanConf = Unit {0}
IsBackupSignal (BackupStop epoch) = IsU64 epoch
IsBackupSignal BackupConf = Unit {0}
IsBackupSignal (BackupRep backup epoch) = IsU32 backup × IsU64 epoch
IsBackupSignal (BackupRef backup size) = IsU32 backup × IsU64 size

unfoldable pub backup_of : ℕ → Reader Body
backup_of number =
    if number == signals.BACKUP_REQ then told (λ x. Backup (BackupReq x)) u32_at
    else if number == signals.BACKUP_START then told (λ x. Backup (BackupStart x)) u32_at
    else if number == signals.BACKUP_ON then always (Backup BackupOn)
    else if number == signals.BACKUP_OFF then always (Backup BackupOff)
    else if number == signals.BACKUP_CHANGE then told (λ x. Backup (BackupChange x.0 x.1))
    (and_then u64_at (λ _. change_at))
    else (always (Backup BackupScanConf))

unfoldable pub backed_up_of : ℕ → Reader Body
backed_up_of number =
    if number == signals.BACKUP_STOP then told (λ x. Backup (BackupStop x)) u64_at
    else if number == signals.BACKUP_CONF then always (Backup BackupConf)
    else if number == signals.BACKUP_REP then told (λ x. Backup (BackupRep x.0 x.1)) (and_then u32_at (λ _. u64_at))
    else (told (λ x. Backup (BackupRef x.0 x.1)) (and_then u32_at (λ _. u64_at)))
