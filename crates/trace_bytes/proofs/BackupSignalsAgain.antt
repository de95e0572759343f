-- What is written of these signals is read again.
use Rattle.std.proofs.Common.{◌≡◌, ℕ, List, [], ◌∷◌, ◌++◌, drop, refl, lit≤}
use Rattle.std.specs.Prelude.{Result, Ok, Err}
use Rattle.sig_core.specs.declared.signal.Body.{Body}
use Rattle.sig_core.specs.declared.signal.Body.TheVariants.{Backup}
use Rattle.sig_core.specs.declared.signal.backup.BackupSignal.{BackupSignal}
use Rattle.sig_core.specs.declared.signal.backup.BackupSignal.TheVariants.{BackupReq, BackupStart, BackupOn, BackupOff}
use Rattle.sig_core.specs.declared.signal.backup.BackupSignal.TheVariants.{BackupChange, BackupScanConf, BackupStop}
use Rattle.sig_core.specs.declared.signal.backup.BackupSignal.TheVariants.{BackupConf, BackupRep, BackupRef}
use Rattle.trace_bytes.specs.declared.kinds.signals.TheConstants as signals
use Rattle.trace_bytes.specs.BackupSignals.{backup_signal_bytes, IsBackupSignal, backup_of, backed_up_of}
use Rattle.trace_bytes.specs.Bodies.{body_of, body_at, of_the_rest}
use Rattle.trace_bytes.proofs.Again.{Again, again, both, known}
use Rattle.trace_bytes.proofs.WordsAgain.{again_change, again_u32, again_u64}

pub backup_again : (x : BackupSignal) (rest : List ℕ) → IsBackupSignal x
    → body_at (backup_signal_bytes x ++ rest) ≡ Ok (Backup x, rest)
unfolding backup_signal_bytes body_at body_of of_the_rest backup_of backed_up_of
backup_again (BackupReq backup) rest fits =
    known 120 body_of signals.BACKUP_REQ (drop 1 (backup_signal_bytes (BackupReq backup)) ++ rest)
    ((Backup (BackupReq backup)), rest) (lit≤ tt) (again (λ x. Backup (BackupReq x)) again_u32 backup rest fits)
backup_again (BackupStart backup) rest fits =
    known 120 body_of signals.BACKUP_START (drop 1 (backup_signal_bytes (BackupStart backup)) ++ rest)
    ((Backup (BackupStart backup)), rest) (lit≤ tt) (again (λ x. Backup (BackupStart x)) again_u32 backup rest fits)
backup_again BackupOn rest fits =
    known 120 body_of signals.BACKUP_ON (drop 1 (backup_signal_bytes BackupOn) ++ rest) ((Backup BackupOn), rest)
    (lit≤ tt) refl
backup_again BackupOff rest fits =
    known 120 body_of signals.BACKUP_OFF (drop 1 (backup_signal_bytes BackupOff) ++ rest) ((Backup BackupOff), rest)
    (lit≤ tt) refl
backup_again (BackupChange epoch change) rest fits =
    known 120 body_of signals.BACKUP_CHANGE (drop 1 (backup_signal_bytes (BackupChange epoch change)) ++ rest)
    ((Backup (BackupChange epoch change)), rest) (lit≤ tt)
    (again (λ x. Backup (BackupChange x.0 x.1)) (both again_u64 again_change) (epoch, change) rest
    (fits.0, fits.1))
backup_again BackupScanConf rest fits =
    known 120 body_of signals.BACKUP_SCAN_CONF (drop 1 (backup_signal_bytes BackupScanConf) ++ rest)
    ((Backup BackupScanConf), rest) (lit≤ tt) refl
backup_again (BackupStop epoch) rest fits =
    known 120 body_of signals.BACKUP_STOP (drop 1 (backup_signal_bytes (BackupStop epoch)) ++ rest)
    ((Backup (BackupStop epoch)), rest) (lit≤ tt) (again (λ x. Backup (BackupStop x)) again_u64 epoch rest fits)
backup_again BackupConf rest fits =
    known 120 body_of signals.BACKUP_CONF (drop 1 (backup_signal_bytes BackupConf) ++ rest) ((Backup BackupConf), rest)
    (lit≤ tt) refl
backup_again (BackupRep backup epoch) rest fits =
    known 120 body_of signals.BACKUP_REP (drop 1 (backup_signal_bytes (BackupRep backup epoch)) ++ rest)
    ((Backup (BackupRep backup epoch)), rest) (lit≤ tt)
    (again (λ x. Backup (BackupRep x.0 x.1)) (both again_u32 again_u64) (backup, epoch) rest (fits.0, fits.1))
backup_again (BackupRef backup size) rest fits =
    known 120 body_of signals.BACKUP_REF (drop 1 (backup_signal_bytes (BackupRef backup size)) ++ rest)
    ((Backup (BackupRef backup size)), rest) (lit≤ tt)
    (again (λ x. Backup (BackupRef x.0 x.1)) (both again_u32 again_u64) (backup, size) rest (fits.0, fits.1))
