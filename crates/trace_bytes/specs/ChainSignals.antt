-- The bytes of signals along the chain of a row's replicas.
use Rattle.std.specs.Prelude.{ℕ, ◌==◌, nat_lt, if◌then◌else◌, List, [], ◌∷◌}
use Rattle.sig_core.specs.declared.signal.Body.{Body}
use Rattle.sig_core.specs.declared.signal.chain.ChainSignal.{ChainSignal}
use Rattle.sig_core.specs.declared.signal.chain.ChainSignal.TheVariants.{LqhKeyReq, LqhKeyConf, LqhKeyRef, Commit}
use Rattle.sig_core.specs.declared.signal.chain.ChainSignal.TheVariants.{Committed, Complete, Completed, Abort, Aborted}
use Rattle.sig_core.specs.declared.signal.Body.TheVariants.{Chain}
use Rattle.redo_format.specs.Reading.{Reader, and_then, told, byte_at}
use Rattle.trace_bytes.specs.declared.kinds.signals.TheConstants as signals
use Rattle.trace_bytes.specs.Causes.{IsCause, cause_at, cause_bytes}
use Rattle.trace_bytes.specs.Lists.{◌&◌}
use Rattle.trace_bytes.specs.Numbers.{IsU64, IsU8, u64_at, u64_bytes, u8_at, u8_bytes}
use Rattle.trace_bytes.specs.Operations.{IsAnswer, IsRowwork, answer_at, answer_bytes, rowwork_at, rowwork_bytes}
use Rattle.trace_bytes.specs.Words.{IsChain, IsKey, IsTx, always, chain_at, chain_bytes, key_at, key_bytes, tx_at}
use Rattle.trace_bytes.specs.Words.{tx_bytes}

unfoldable pub chain_signal_bytes : ChainSignal → List ℕ
chain_signal_bytes (LqhKeyReq tx work chain at) =
    signals.LQH_KEY_REQ ∷ tx_bytes tx & rowwork_bytes work & chain_bytes chain & u8_bytes at
chain_signal_bytes (LqhKeyConf tx key answer) = signals.LQH_KEY_CONF ∷ tx_bytes tx & key_bytes key & answer_bytes answer
chain_signal_bytes (LqhKeyRef tx key cause) = signals.LQH_KEY_REF ∷ tx_bytes tx & key_bytes key & cause_bytes cause
chain_signal_bytes (Commit tx key epoch chain at) =
    signals.COMMIT ∷ tx_bytes tx & key_bytes key & u64_bytes epoch & chain_bytes chain & u8_bytes at
chain_signal_bytes (Committed tx key) = signals.COMMITTED ∷ tx_bytes tx & key_bytes key
chain_signal_bytes (Complete tx key chain at) =
    signals.COMPLETE ∷ tx_bytes tx & key_bytes key & chain_bytes chain & u8_bytes at
chain_signal_bytes (Completed tx key) = signals.COMPLETED ∷ tx_bytes tx & key_bytes key
chain_signal_bytes (Abort tx key) = signals.ABORT ∷ tx_bytes tx & key_bytes key
chain_signal_bytes (Aborted tx key) = signals.ABORTED ∷ tx_bytes tx & key_bytes key

abbrev pub IsChainSignal : ChainSignal → Type 0
IsChainSignal (LqhKeyReq tx work chain at) = IsTx tx × IsRowwork work × IsChain chain × IsU8 at
IsChainSignal (LqhKeyConf tx key answer) = IsTx tx × IsKey key × IsAnswer answer
IsChainSignal (LqhKeyRef tx key cause) = IsTx tx × IsKey key × IsCause cause
IsChainSignal (Commit tx key epoch chain at) = IsTx tx × IsKey key × IsU64 epoch × IsChain chain × IsU8 at
IsChainSignal (Committed tx key) = IsTx tx × IsKey key
IsChainSignal (Complete tx key chain at) = IsTx tx × IsKey key × IsChain chain × IsU8 at
IsChainSignal (Completed tx key) = IsTx tx × IsKey key
IsChainSignal (Abort tx key) = IsTx tx × IsKey key
IsChainSignal (Aborted tx key) = IsTx tx × IsKey key

unfoldable pub preparing_of : ℕ → Reader Body
preparing_of number =
    if number == signals.LQH_KEY_REQ then told (λ x. Chain (LqhKeyReq x.0 x.1.0 x.1.1.0 x.1.1.1))
    (and_then tx_at (λ _. and_then rowwork_at (λ _. and_then chain_at (λ _. u8_at))))
    else if number == signals.LQH_KEY_CONF then told (λ x. Chain (LqhKeyConf x.0 x.1.0 x.1.1))
    (and_then tx_at (λ _. and_then key_at (λ _. answer_at)))
    else (told (λ x. Chain (LqhKeyRef x.0 x.1.0 x.1.1)) (and_then tx_at (λ _. and_then key_at (λ _. cause_at))))

unfoldable pub committing_of : ℕ → Reader Body
committing_of number =
    if number == signals.COMMIT then told (λ x. Chain (Commit x.0 x.1.0 x.1.1.0 x.1.1.1.0 x.1.1.1.1))
    (and_then tx_at (λ _. and_then key_at (λ _. and_then u64_at (λ _. and_then chain_at (λ _. u8_at)))))
    else if number == signals.COMMITTED then told (λ x. Chain (Committed x.0 x.1)) (and_then tx_at (λ _. key_at))
    else if number == signals.COMPLETE then told (λ x. Chain (Complete x.0 x.1.0 x.1.1.0 x.1.1.1))
    (and_then tx_at (λ _. and_then key_at (λ _. and_then chain_at (λ _. u8_at))))
    else if number == signals.COMPLETED then told (λ x. Chain (Completed x.0 x.1)) (and_then tx_at (λ _. key_at))
    else if number == signals.ABORT then told (λ x. Chain (Abort x.0 x.1)) (and_then tx_at (λ _. key_at))
    else (told (λ x. Chain (Aborted x.0 x.1)) (and_then tx_at (λ _. key_at)))
