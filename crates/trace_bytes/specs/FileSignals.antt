-- The bytes of signals between a block and the disk of its node.
use Rattle.std.specs.Prelude.{ℕ, ◌==◌, nat_lt, if◌then◌else◌, List, [], ◌∷◌}
use Rattle.sig_core.specs.declared.signal.Body.{Body}
use Rattle.sig_core.specs.declared.signal.file.FileSignal.{FileSignal}
use Rattle.sig_core.specs.declared.signal.file.FileSignal.TheVariants.{FsWriteReq, FsSyncReq, FsConf}
use Rattle.sig_core.specs.declared.signal.Body.TheVariants.{File}
use Rattle.redo_format.specs.Reading.{Reader, and_then, told, byte_at}
use Rattle.trace_bytes.specs.declared.kinds.signals.TheConstants as signals
use Rattle.trace_bytes.specs.Lists.{AreItems, list_at, list_bytes, ◌&◌}
use Rattle.trace_bytes.specs.Numbers.{IsU64, IsU8, u64_at, u64_bytes, u8_at, u8_bytes}
use Rattle.trace_bytes.specs.Places.{IsBlock, block_at, block_bytes}
use Rattle.trace_bytes.specs.Words.{always}

unfoldable pub file_signal_bytes : FileSignal → List ℕ
file_signal_bytes (FsWriteReq by req file at bytes) =
    signals.FS_WRITE_REQ ∷ block_bytes by & u64_bytes req & u8_bytes file & u64_bytes at & list_bytes u8_bytes bytes
file_signal_bytes (FsSyncReq by req file) = signals.FS_SYNC_REQ ∷ block_bytes by & u64_bytes req & u8_bytes file
file_signal_bytes (FsConf req) = signals.FS_CONF ∷ u64_bytes req

abbrev pub IsFileSignal : FileSignal → Type 0
IsFileSignal (FsWriteReq by req file at bytes) = IsBlock by × IsU64 req × IsU8 file × IsU64 at × AreItems IsU8 bytes
IsFileSignal (FsSyncReq by req file) = IsBlock by × IsU64 req × IsU8 file
IsFileSignal (FsConf req) = IsU64 req

unfoldable pub file_of : ℕ → Reader Body
file_of number =
    if number == signals.FS_WRITE_REQ then told (λ x. File (FsWriteReq x.0 x.1.0 x.1.1.0 x.1.1.1.0 x.1.1.1.1))
    (and_then block_at (λ _. and_then u64_at (λ _. and_then u8_at (λ _. and_then u64_at (λ _. list_at u8_at)))))
    else if number == signals.FS_SYNC_REQ then told (λ x. File (FsSyncReq x.0 x.1.0 x.1.1))
    (and_then block_at (λ _. and_then u64_at (λ _. u8_at)))
    else (told (λ x. File (FsConf x)) u64_at)
