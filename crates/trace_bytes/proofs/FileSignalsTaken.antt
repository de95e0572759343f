-- What is read of these is what is written.
use Rattle.std.proofs.Common.{refl}
use Rattle.sig_core.specs.declared.signal.Body.TheVariants.{File}
use Rattle.sig_core.specs.declared.signal.file.FileSignal.TheVariants.{FsWriteReq, FsSyncReq, FsConf}
use Rattle.trace_bytes.specs.FileSignals.{file_of, file_signal_bytes}
use Rattle.trace_bytes.specs.Bodies.{IsBody, body_bytes}
use Rattle.trace_bytes.proofs.Taken.{TakesKind, last_kind, or_kind, takes_both}
use Rattle.trace_bytes.proofs.ListsTaken.{takes_list}
use Rattle.trace_bytes.proofs.PlacesTaken.{takes_block}
use Rattle.trace_bytes.proofs.WordsTaken.{takes_u64, takes_u8}

pub file_taken : TakesKind IsBody body_bytes file_of 74 76
unfolding file_signal_bytes file_of
file_taken =
    or_kind IsBody body_bytes 74 (λ x. File (FsWriteReq x.0 x.1.0 x.1.1.0 x.1.1.1.0 x.1.1.1.1))
    (takes_both takes_block (takes_both takes_u64 (takes_both takes_u8
    (takes_both takes_u64 (takes_list takes_u8)))))
    (λ x fits. (fits.0, fits.1.0, fits.1.1.0, fits.1.1.1.0, fits.1.1.1.1)) (λ x fits. refl)
    (or_kind IsBody body_bytes 75 (λ x. File (FsSyncReq x.0 x.1.0 x.1.1))
    (takes_both takes_block (takes_both takes_u64 takes_u8)) (λ x fits. (fits.0, fits.1.0, fits.1.1))
    (λ x fits. refl)
    (last_kind IsBody body_bytes 76 (λ x. File (FsConf x)) takes_u64 (λ x fits. fits) (λ x fits. refl)))
