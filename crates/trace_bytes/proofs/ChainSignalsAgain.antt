-- What is written of these signals is read again.
use Rattle.std.proofs.Common.{◌≡◌, ℕ, List, [], ◌∷◌, ◌++◌, drop, refl, lit≤}
use Rattle.std.specs.Prelude.{Result, Ok, Err}
use Rattle.sig_core.specs.declared.signal.Body.{Body}
use Rattle.sig_core.specs.declared.signal.Body.TheVariants.{Chain}
use Rattle.sig_core.specs.declared.signal.chain.ChainSignal.{ChainSignal}
use Rattle.sig_core.specs.declared.signal.chain.ChainSignal.TheVariants.{LqhKeyReq, LqhKeyConf, LqhKeyRef, Commit}
use Rattle.sig_core.specs.declared.signal.chain.ChainSignal.TheVariants.{Committed, Complete, Completed, Abort, Aborted}
use Rattle.trace_bytes.specs.declared.kinds.signals.TheConstants as signals
use Rattle.trace_bytes.specs.ChainSignals.{chain_signal_bytes, IsChainSignal, preparing_of, committing_of}
use Rattle.trace_bytes.specs.Bodies.{body_of, body_at, of_a_client}
use Rattle.trace_bytes.proofs.Again.{Again, again, both, known}
use Rattle.trace_bytes.proofs.CausesAgain.{again_cause}
use Rattle.trace_bytes.proofs.OperationsAgain.{again_answer, again_rowwork}
use Rattle.trace_bytes.proofs.WordsAgain.{again_chain, again_key, again_tx, again_u64, again_u8}

pub chain_again : (x : ChainSignal) (rest : List ℕ) → IsChainSignal x
    → body_at (chain_signal_bytes x ++ rest) ≡ Ok (Chain x, rest)
unfolding chain_signal_bytes body_at body_of of_a_client preparing_of committing_of
chain_again (LqhKeyReq tx work chain at) rest fits =
    known 120 body_of signals.LQH_KEY_REQ (drop 1 (chain_signal_bytes (LqhKeyReq tx work chain at)) ++ rest)
    ((Chain (LqhKeyReq tx work chain at)), rest) (lit≤ tt)
    (again (λ x. Chain (LqhKeyReq x.0 x.1.0 x.1.1.0 x.1.1.1))
    (both again_tx (both again_rowwork (both again_chain again_u8))) (tx, (work, (chain, at))) rest
    (fits.0, (fits.1, (fits.2, fits.3))))
chain_again (LqhKeyConf tx key answer) rest fits =
    known 120 body_of signals.LQH_KEY_CONF (drop 1 (chain_signal_bytes (LqhKeyConf tx key answer)) ++ rest)
    ((Chain (LqhKeyConf tx key answer)), rest) (lit≤ tt)
    (again (λ x. Chain (LqhKeyConf x.0 x.1.0 x.1.1)) (both again_tx (both again_key again_answer))
    (tx, (key, answer)) rest (fits.0, (fits.1, fits.2)))
chain_again (LqhKeyRef tx key cause) rest fits =
    known 120 body_of signals.LQH_KEY_REF (drop 1 (chain_signal_bytes (LqhKeyRef tx key cause)) ++ rest)
    ((Chain (LqhKeyRef tx key cause)), rest) (lit≤ tt)
    (again (λ x. Chain (LqhKeyRef x.0 x.1.0 x.1.1)) (both again_tx (both again_key again_cause))
    (tx, (key, cause)) rest (fits.0, (fits.1, fits.2)))
chain_again (Commit tx key epoch chain at) rest fits =
    known 120 body_of signals.COMMIT (drop 1 (chain_signal_bytes (Commit tx key epoch chain at)) ++ rest)
    ((Chain (Commit tx key epoch chain at)), rest) (lit≤ tt)
    (again (λ x. Chain (Commit x.0 x.1.0 x.1.1.0 x.1.1.1.0 x.1.1.1.1))
    (both again_tx (both again_key (both again_u64 (both again_chain again_u8))))
    (tx, (key, (epoch, (chain, at)))) rest (fits.0, (fits.1, (fits.2, (fits.3, fits.4)))))
chain_again (Committed tx key) rest fits =
    known 120 body_of signals.COMMITTED (drop 1 (chain_signal_bytes (Committed tx key)) ++ rest)
    ((Chain (Committed tx key)), rest) (lit≤ tt)
    (again (λ x. Chain (Committed x.0 x.1)) (both again_tx again_key) (tx, key) rest (fits.0, fits.1))
chain_again (Complete tx key chain at) rest fits =
    known 120 body_of signals.COMPLETE (drop 1 (chain_signal_bytes (Complete tx key chain at)) ++ rest)
    ((Chain (Complete tx key chain at)), rest) (lit≤ tt)
    (again (λ x. Chain (Complete x.0 x.1.0 x.1.1.0 x.1.1.1))
    (both again_tx (both again_key (both again_chain again_u8))) (tx, (key, (chain, at))) rest
    (fits.0, (fits.1, (fits.2, fits.3))))
chain_again (Completed tx key) rest fits =
    known 120 body_of signals.COMPLETED (drop 1 (chain_signal_bytes (Completed tx key)) ++ rest)
    ((Chain (Completed tx key)), rest) (lit≤ tt)
    (again (λ x. Chain (Completed x.0 x.1)) (both again_tx again_key) (tx, key) rest (fits.0, fits.1))
chain_again (Abort tx key) rest fits =
    known 120 body_of signals.ABORT (drop 1 (chain_signal_bytes (Abort tx key)) ++ rest) ((Chain (Abort tx key)), rest)
    (lit≤ tt) (again (λ x. Chain (Abort x.0 x.1)) (both again_tx again_key) (tx, key) rest (fits.0, fits.1))
chain_again (Aborted tx key) rest fits =
    known 120 body_of signals.ABORTED (drop 1 (chain_signal_bytes (Aborted tx key)) ++ rest)
    ((Chain (Aborted tx key)), rest) (lit≤ tt)
    (again (λ x. Chain (Aborted x.0 x.1)) (both again_tx again_key) (tx, key) rest (fits.0, fits.1))
