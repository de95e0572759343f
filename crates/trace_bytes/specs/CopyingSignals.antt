-- The bytes of signals by which rows are copied to a node that starts.
use Rattle.std.specs.Prelude.{ℕ, ◌==◌, nat_lt, if◌then◌else◌, List, [], ◌∷◌}
use Rattle.sig_core.specs.declared.signal.Body.{Body}
use Rattle.sig_core.specs.declared.signal.copying.CopyingSignal.{CopyingSignal}
use Rattle.sig_core.specs.declared.signal.copying.CopyingSignal.TheVariants.{CopyFragReq, LqhScanReq, LqhScanConf}
use Rattle.sig_core.specs.declared.signal.copying.CopyingSignal.TheVariants.{CopyRowReq, CopyRowConf, LqhUnlock}
use Rattle.sig_core.specs.declared.signal.copying.CopyingSignal.TheVariants.{CopyFragConf, CopyKeyReq, CopyKeyConf}
use Rattle.sig_core.specs.declared.signal.copying.CopyingSignal.TheVariants.{CopyKeyRef}
use Rattle.sig_core.specs.declared.signal.Body.TheVariants.{Copying}
use Rattle.redo_format.specs.Reading.{Reader, and_then, told, byte_at}
use Rattle.trace_bytes.specs.declared.kinds.signals.TheConstants as signals
use Rattle.trace_bytes.specs.Lists.{◌&◌}
use Rattle.trace_bytes.specs.Numbers.{IsU64, IsU8, u64_at, u64_bytes, u8_at, u8_bytes}
use Rattle.trace_bytes.specs.Words.{IsKey, IsMember, IsOptRow, IsOptU64, IsRow, always, key_at, key_bytes, member_at}
use Rattle.trace_bytes.specs.Words.{member_bytes, opt_row_at, opt_row_bytes, opt_u64_at, opt_u64_bytes, row_at}
use Rattle.trace_bytes.specs.Words.{row_bytes}

unfoldable pub copying_signal_bytes : CopyingSignal → List ℕ
copying_signal_bytes (CopyFragReq member fragment own) =
    signals.COPY_FRAG_REQ ∷ member_bytes member & u8_bytes fragment & opt_u64_bytes own
copying_signal_bytes (LqhScanReq fragment at) = signals.LQH_SCAN_REQ ∷ u8_bytes fragment & u64_bytes at
copying_signal_bytes (LqhScanConf row epoch next) =
    signals.LQH_SCAN_CONF ∷ opt_row_bytes row & u64_bytes epoch & opt_u64_bytes next
copying_signal_bytes (CopyRowReq row epoch) = signals.COPY_ROW_REQ ∷ row_bytes row & u64_bytes epoch
copying_signal_bytes CopyRowConf = signals.COPY_ROW_CONF ∷ []
copying_signal_bytes (LqhUnlock key) = signals.LQH_UNLOCK ∷ key_bytes key
copying_signal_bytes CopyFragConf = signals.COPY_FRAG_CONF ∷ []
copying_signal_bytes (CopyKeyReq key epoch) = signals.COPY_KEY_REQ ∷ key_bytes key & u64_bytes epoch
copying_signal_bytes CopyKeyConf = signals.COPY_KEY_CONF ∷ []
copying_signal_bytes CopyKeyRef = signals.COPY_KEY_REF ∷ []

abbrev pub IsCopyingSignal : CopyingSignal → Type 0
IsCopyingSignal (CopyFragReq member fragment own) = IsMember member × IsU8 fragment × IsOptU64 own
IsCopyingSignal (LqhScanReq fragment at) = IsU8 fragment × IsU64 at
IsCopyingSignal (LqhScanConf row epoch next) = IsOptRow row × IsU64 epoch × IsOptU64 next
IsCopyingSignal (CopyRowReq row epoch) = IsRow row × IsU64 epoch
IsCopyingSignal CopyRowConf = Unit {0}
IsCopyingSignal (LqhUnlock key) = IsKey key
IsCopyingSignal CopyFragConf = Unit {0}
IsCopyingSignal (CopyKeyReq key epoch) = IsKey key × IsU64 epoch
IsCopyingSignal CopyKeyConf = Unit {0}
IsCopyingSignal CopyKeyRef = Unit {0}

unfoldable pub copying_of : ℕ → Reader Body
copying_of number =
    if number == signals.COPY_FRAG_REQ then told (λ x. Copying (CopyFragReq x.0 x.1.0 x.1.1))
    (and_then member_at (λ _. and_then u8_at (λ _. opt_u64_at)))
    else if number == signals.LQH_SCAN_REQ then told (λ x. Copying (LqhScanReq x.0 x.1)) (and_then u8_at (λ _. u64_at))
    else if number == signals.LQH_SCAN_CONF then told (λ x. Copying (LqhScanConf x.0 x.1.0 x.1.1))
    (and_then opt_row_at (λ _. and_then u64_at (λ _. opt_u64_at)))
    else if number == signals.COPY_ROW_REQ then told (λ x. Copying (CopyRowReq x.0 x.1)) (and_then row_at (λ _. u64_at))
    else if number == signals.COPY_ROW_CONF then always (Copying CopyRowConf)
    else if number == signals.LQH_UNLOCK then told (λ x. Copying (LqhUnlock x)) key_at
    else (always (Copying CopyFragConf))

unfoldable pub own_rows_of : ℕ → Reader Body
own_rows_of number =
    if number == signals.COPY_KEY_REQ then told (λ x. Copying (CopyKeyReq x.0 x.1)) (and_then key_at (λ _. u64_at))
    else if number == signals.COPY_KEY_CONF then always (Copying CopyKeyConf)
    else (always (Copying CopyKeyRef))
