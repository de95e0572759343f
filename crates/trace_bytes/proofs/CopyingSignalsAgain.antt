-- What is written of these signals is read again.
use Rattle.std.proofs.Common.{◌≡◌, ℕ, List, [], ◌∷◌, ◌++◌, drop, refl, lit≤}
use Rattle.std.specs.Prelude.{Result, Ok, Err}
use Rattle.sig_core.specs.declared.signal.Body.{Body}
use Rattle.sig_core.specs.declared.signal.Body.TheVariants.{Copying}
use Rattle.sig_core.specs.declared.signal.copying.CopyingSignal.{CopyingSignal}
use Rattle.sig_core.specs.declared.signal.copying.CopyingSignal.TheVariants.{CopyFragReq, LqhScanReq, LqhScanConf}
use Rattle.sig_core.specs.declared.signal.copying.CopyingSignal.TheVariants.{CopyRowReq, CopyRowConf, LqhUnlock}
use Rattle.sig_core.specs.declared.signal.copying.CopyingSignal.TheVariants.{CopyFragConf, CopyKeyReq, CopyKeyConf}
use Rattle.sig_core.specs.declared.signal.copying.CopyingSignal.TheVariants.{CopyKeyRef}
use Rattle.trace_bytes.specs.declared.kinds.signals.TheConstants as signals
use Rattle.trace_bytes.specs.CopyingSignals.{copying_signal_bytes, IsCopyingSignal, copying_of, own_rows_of}
use Rattle.trace_bytes.specs.Bodies.{body_of, body_at, of_disks, of_the_rest}
use Rattle.trace_bytes.proofs.Again.{Again, again, both, known}
use Rattle.trace_bytes.proofs.WordsAgain.{again_key, again_member, again_opt_row, again_opt_u64, again_row, again_u64}
use Rattle.trace_bytes.proofs.WordsAgain.{again_u8}

pub copying_again : (x : CopyingSignal) (rest : List ℕ) → IsCopyingSignal x
    → body_at (copying_signal_bytes x ++ rest) ≡ Ok (Copying x, rest)
unfolding copying_signal_bytes body_at body_of of_disks of_the_rest copying_of own_rows_of
copying_again (CopyFragReq member fragment own) rest fits =
    known 120 body_of signals.COPY_FRAG_REQ (drop 1 (copying_signal_bytes (CopyFragReq member fragment own)) ++ rest)
    ((Copying (CopyFragReq member fragment own)), rest) (lit≤ tt)
    (again (λ x. Copying (CopyFragReq x.0 x.1.0 x.1.1)) (both again_member (both again_u8 again_opt_u64))
    (member, (fragment, own)) rest (fits.0, (fits.1, fits.2)))
copying_again (LqhScanReq fragment at) rest fits =
    known 120 body_of signals.LQH_SCAN_REQ (drop 1 (copying_signal_bytes (LqhScanReq fragment at)) ++ rest)
    ((Copying (LqhScanReq fragment at)), rest) (lit≤ tt)
    (again (λ x. Copying (LqhScanReq x.0 x.1)) (both again_u8 again_u64) (fragment, at) rest (fits.0, fits.1))
copying_again (LqhScanConf row epoch next) rest fits =
    known 120 body_of signals.LQH_SCAN_CONF (drop 1 (copying_signal_bytes (LqhScanConf row epoch next)) ++ rest)
    ((Copying (LqhScanConf row epoch next)), rest) (lit≤ tt)
    (again (λ x. Copying (LqhScanConf x.0 x.1.0 x.1.1)) (both again_opt_row (both again_u64 again_opt_u64))
    (row, (epoch, next)) rest (fits.0, (fits.1, fits.2)))
copying_again (CopyRowReq row epoch) rest fits =
    known 120 body_of signals.COPY_ROW_REQ (drop 1 (copying_signal_bytes (CopyRowReq row epoch)) ++ rest)
    ((Copying (CopyRowReq row epoch)), rest) (lit≤ tt)
    (again (λ x. Copying (CopyRowReq x.0 x.1)) (both again_row again_u64) (row, epoch) rest (fits.0, fits.1))
copying_again CopyRowConf rest fits =
    known 120 body_of signals.COPY_ROW_CONF (drop 1 (copying_signal_bytes CopyRowConf) ++ rest)
    ((Copying CopyRowConf), rest) (lit≤ tt) refl
copying_again (LqhUnlock key) rest fits =
    known 120 body_of signals.LQH_UNLOCK (drop 1 (copying_signal_bytes (LqhUnlock key)) ++ rest)
    ((Copying (LqhUnlock key)), rest) (lit≤ tt) (again (λ x. Copying (LqhUnlock x)) again_key key rest fits)
copying_again CopyFragConf rest fits =
    known 120 body_of signals.COPY_FRAG_CONF (drop 1 (copying_signal_bytes CopyFragConf) ++ rest)
    ((Copying CopyFragConf), rest) (lit≤ tt) refl
copying_again (CopyKeyReq key epoch) rest fits =
    known 120 body_of signals.COPY_KEY_REQ (drop 1 (copying_signal_bytes (CopyKeyReq key epoch)) ++ rest)
    ((Copying (CopyKeyReq key epoch)), rest) (lit≤ tt)
    (again (λ x. Copying (CopyKeyReq x.0 x.1)) (both again_key again_u64) (key, epoch) rest (fits.0, fits.1))
copying_again CopyKeyConf rest fits =
    known 120 body_of signals.COPY_KEY_CONF (drop 1 (copying_signal_bytes CopyKeyConf) ++ rest)
    ((Copying CopyKeyConf), rest) (lit≤ tt) refl
copying_again CopyKeyRef rest fits =
    known 120 body_of signals.COPY_KEY_REF (drop 1 (copying_signal_bytes CopyKeyRef) ++ rest)
    ((Copying CopyKeyRef), rest) (lit≤ tt) refl
