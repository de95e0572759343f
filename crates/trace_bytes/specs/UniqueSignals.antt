-- The bytes of signals of operations where values are unique.
use Rattle.std.specs.Prelude.{ℕ, ◌==◌, nat_lt, if◌then◌else◌, List, [], ◌∷◌}
use Rattle.sig_core.specs.declared.signal.Body.{Body}
use Rattle.sig_core.specs.declared.signal.unique.UniqueSignal.{UniqueSignal}
use Rattle.sig_core.specs.declared.signal.unique.UniqueSignal.TheVariants.{TcUniqueReq, TcUniqueConf}
use Rattle.sig_core.specs.declared.signal.Body.TheVariants.{Unique}
use Rattle.redo_format.specs.Reading.{Reader, and_then, told, byte_at}
use Rattle.trace_bytes.specs.declared.kinds.signals.TheConstants as signals
use Rattle.trace_bytes.specs.Lists.{◌&◌}
use Rattle.trace_bytes.specs.Operations.{IsOp, IsUanswer, op_at, op_bytes, uanswer_at, uanswer_bytes}
use Rattle.trace_bytes.specs.Words.{IsTx, always, tx_at, tx_bytes}

unfoldable pub unique_signal_bytes : UniqueSignal → List ℕ
unique_signal_bytes (TcUniqueReq tx op) = signals.TC_UNIQUE_REQ ∷ tx_bytes tx & op_bytes op
unique_signal_bytes (TcUniqueConf tx answer) = signals.TC_UNIQUE_CONF ∷ tx_bytes tx & uanswer_bytes answer

abbrev pub IsUniqueSignal : UniqueSignal → Type 0
IsUniqueSignal (TcUniqueReq tx op) = IsTx tx × IsOp op
IsUniqueSignal (TcUniqueConf tx answer) = IsTx tx × IsUanswer answer

unfoldable pub unique_of : ℕ → Reader Body
unique_of number =
    if number == signals.TC_UNIQUE_REQ then told (λ x. Unique (TcUniqueReq x.0 x.1)) (and_then tx_at (λ _. op_at))
    else (told (λ x. Unique (TcUniqueConf x.0 x.1)) (and_then tx_at (λ _. uanswer_at)))
