-- The bytes of signals by which the transactions of a failed coordinator are ended.
use Rattle.std.specs.Prelude.{ℕ, ◌==◌, nat_lt, if◌then◌else◌, List, [], ◌∷◌}
use Rattle.sig_core.specs.declared.signal.Body.{Body}
use Rattle.sig_core.specs.declared.signal.takeover.TakeoverSignal.{TakeoverSignal}
use Rattle.sig_core.specs.declared.signal.takeover.TakeoverSignal.TheVariants.{TakeoverOrd, LqhTransReq, LqhTransConf}
use Rattle.sig_core.specs.declared.signal.takeover.TakeoverSignal.TheVariants.{LqhTransEnd, TakeoverEnd}
use Rattle.sig_core.specs.declared.signal.Body.TheVariants.{Takeover}
use Rattle.redo_format.specs.Reading.{Reader, and_then, told, byte_at}
use Rattle.trace_bytes.specs.declared.kinds.signals.TheConstants as signals
use Rattle.trace_bytes.specs.Lists.{◌&◌}
use Rattle.trace_bytes.specs.Numbers.{IsU64, u64_at, u64_bytes}
use Rattle.trace_bytes.specs.Places.{IsState, state_at, state_bytes}
use Rattle.trace_bytes.specs.Words.{IsKey, IsTx, always, key_at, key_bytes, tx_at, tx_bytes}

unfoldable pub takeover_signal_bytes : TakeoverSignal → List ℕ
takeover_signal_bytes TakeoverOrd = signals.TAKEOVER_ORD ∷ []
takeover_signal_bytes LqhTransReq = signals.LQH_TRANS_REQ ∷ []
takeover_signal_bytes (LqhTransConf tx key state epoch) =
    signals.LQH_TRANS_CONF ∷ tx_bytes tx & key_bytes key & state_bytes state & u64_bytes epoch
takeover_signal_bytes LqhTransEnd = signals.LQH_TRANS_END ∷ []
takeover_signal_bytes TakeoverEnd = signals.TAKEOVER_END ∷ []

abbrev pub IsTakeoverSignal : TakeoverSignal → Type 0
IsTakeoverSignal TakeoverOrd = Unit {0}
IsTakeoverSignal LqhTransReq = Unit {0}
IsTakeoverSignal (LqhTransConf tx key state epoch) = IsTx tx × IsKey key × IsState state × IsU64 epoch
IsTakeoverSignal LqhTransEnd = Unit {0}
IsTakeoverSignal TakeoverEnd = Unit {0}

unfoldable pub takeover_of : ℕ → Reader Body
takeover_of number =
    if number == signals.TAKEOVER_ORD then always (Takeover TakeoverOrd)
    else if number == signals.LQH_TRANS_REQ then always (Takeover LqhTransReq)
    else if number == signals.LQH_TRANS_CONF then told (λ x. Takeover (LqhTransConf x.0 x.1.0 x.1.1.0 x.1.1.1))
    (and_then tx_at (λ _. and_then key_at (λ _. and_then state_at (λ _. u64_at))))
    else if number == signals.LQH_TRANS_END then always (Takeover LqhTransEnd)
    else (always (Takeover TakeoverEnd))
