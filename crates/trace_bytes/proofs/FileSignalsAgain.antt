-- What is written of these signals is read again.
use Rattle.std.proofs.Common.{◌≡◌, ℕ, List, [], ◌∷◌, ◌++◌, drop, refl, lit≤}
use Rattle.std.specs.Prelude.{Result, Ok, Err}
use Rattle.sig_core.specs.declared.signal.Body.{Body}
use Rattle.sig_core.specs.declared.signal.Body.TheVariants.{File}
use Rattle.sig_core.specs.declared.signal.file.FileSignal.{FileSignal}
use Rattle.sig_core.specs.declared.signal.file.FileSignal.TheVariants.{FsWriteReq, FsSyncReq, FsConf}
use Rattle.trace_bytes.specs.declared.kinds.signals.TheConstants as signals
use Rattle.trace_bytes.specs.FileSignals.{file_signal_bytes, IsFileSignal, file_of}
use Rattle.trace_bytes.specs.Bodies.{body_of, body_at, of_disks}
use Rattle.trace_bytes.proofs.Again.{Again, again, both, known}
use Rattle.trace_bytes.proofs.ListsAgain.{again_list}
use Rattle.trace_bytes.proofs.PlacesAgain.{again_block}
use Rattle.trace_bytes.proofs.WordsAgain.{again_u64, again_u8}

pub file_again : (x : FileSignal) (rest : List ℕ) → IsFileSignal x
    → body_at (file_signal_bytes x ++ rest) ≡ Ok (File x, rest)
unfolding file_signal_bytes body_at body_of of_disks file_of
file_again (FsWriteReq by req file at bytes) rest fits =
    known 120 body_of signals.FS_WRITE_REQ (drop 1 (file_signal_bytes (FsWriteReq by req file at bytes)) ++ rest)
    ((File (FsWriteReq by req file at bytes)), rest) (lit≤ tt)
    (again (λ x. File (FsWriteReq x.0 x.1.0 x.1.1.0 x.1.1.1.0 x.1.1.1.1))
    (both again_block (both again_u64 (both again_u8 (both again_u64 (again_list again_u8)))))
    (by, (req, (file, (at, bytes)))) rest (fits.0, (fits.1, (fits.2, (fits.3, fits.4)))))
file_again (FsSyncReq by req file) rest fits =
    known 120 body_of signals.FS_SYNC_REQ (drop 1 (file_signal_bytes (FsSyncReq by req file)) ++ rest)
    ((File (FsSyncReq by req file)), rest) (lit≤ tt)
    (again (λ x. File (FsSyncReq x.0 x.1.0 x.1.1)) (both again_block (both again_u64 again_u8))
    (by, (req, file)) rest (fits.0, (fits.1, fits.2)))
file_again (FsConf req) rest fits =
    known 120 body_of signals.FS_CONF (drop 1 (file_signal_bytes (FsConf req)) ++ rest) ((File (FsConf req)), rest)
    (lit≤ tt) (again (λ x. File (FsConf x)) again_u64 req rest fits)
