-- What is read of these is what is written.
use Rattle.std.proofs.Common.{refl}
use Rattle.sig_core.specs.declared.signal.Body.TheVariants.{Chain}
use Rattle.sig_core.specs.declared.signal.chain.ChainSignal.TheVariants.{LqhKeyReq, LqhKeyConf, LqhKeyRef, Commit}
use Rattle.sig_core.specs.declared.signal.chain.ChainSignal.TheVariants.{Committed, Complete, Completed, Abort, Aborted}
use Rattle.trace_bytes.specs.ChainSignals.{chain_signal_bytes, committing_of, preparing_of}
use Rattle.trace_bytes.specs.Bodies.{IsBody, body_bytes}
use Rattle.trace_bytes.proofs.Taken.{TakesKind, last_kind, or_kind, takes_both}
use Rattle.trace_bytes.proofs.CausesTaken.{takes_cause}
use Rattle.trace_bytes.proofs.OperationsTaken.{takes_answer, takes_rowwork}
use Rattle.trace_bytes.proofs.WordsTaken.{takes_chain, takes_key, takes_tx, takes_u64, takes_u8}

pub preparing_taken : TakesKind IsBody body_bytes preparing_of 25 27
unfolding chain_signal_bytes preparing_of
preparing_taken =
    or_kind IsBody body_bytes 25 (λ x. Chain (LqhKeyReq x.0 x.1.0 x.1.1.0 x.1.1.1))
    (takes_both takes_tx (takes_both takes_rowwork (takes_both takes_chain takes_u8)))
    (λ x fits. (fits.0, fits.1.0, fits.1.1.0, fits.1.1.1)) (λ x fits. refl)
    (or_kind IsBody body_bytes 26 (λ x. Chain (LqhKeyConf x.0 x.1.0 x.1.1))
    (takes_both takes_tx (takes_both takes_key takes_answer)) (λ x fits. (fits.0, fits.1.0, fits.1.1))
    (λ x fits. refl)
    (last_kind IsBody body_bytes 27 (λ x. Chain (LqhKeyRef x.0 x.1.0 x.1.1))
    (takes_both takes_tx (takes_both takes_key takes_cause)) (λ x fits. (fits.0, fits.1.0, fits.1.1))
    (λ x fits. refl)))

pub committing_taken : TakesKind IsBody body_bytes committing_of 28 33
unfolding chain_signal_bytes committing_of
committing_taken =
    or_kind IsBody body_bytes 28 (λ x. Chain (Commit x.0 x.1.0 x.1.1.0 x.1.1.1.0 x.1.1.1.1))
    (takes_both takes_tx (takes_both takes_key (takes_both takes_u64 (takes_both takes_chain takes_u8))))
    (λ x fits. (fits.0, fits.1.0, fits.1.1.0, fits.1.1.1.0, fits.1.1.1.1)) (λ x fits. refl)
    (or_kind IsBody body_bytes 29 (λ x. Chain (Committed x.0 x.1)) (takes_both takes_tx takes_key)
    (λ x fits. (fits.0, fits.1)) (λ x fits. refl)
    (or_kind IsBody body_bytes 30 (λ x. Chain (Complete x.0 x.1.0 x.1.1.0 x.1.1.1))
    (takes_both takes_tx (takes_both takes_key (takes_both takes_chain takes_u8)))
    (λ x fits. (fits.0, fits.1.0, fits.1.1.0, fits.1.1.1)) (λ x fits. refl)
    (or_kind IsBody body_bytes 31 (λ x. Chain (Completed x.0 x.1)) (takes_both takes_tx takes_key)
    (λ x fits. (fits.0, fits.1)) (λ x fits. refl)
    (or_kind IsBody body_bytes 32 (λ x. Chain (Abort x.0 x.1)) (takes_both takes_tx takes_key)
    (λ x fits. (fits.0, fits.1)) (λ x fits. refl)
    (last_kind IsBody body_bytes 33 (λ x. Chain (Aborted x.0 x.1)) (takes_both takes_tx takes_key)
    (λ x fits. (fits.0, fits.1)) (λ x fits. refl))))))
