-- What is written of these signals is read again.
use Rattle.std.proofs.Common.{◌≡◌, ℕ, List, [], ◌∷◌, ◌++◌, drop, refl, lit≤}
use Rattle.std.specs.Prelude.{Result, Ok, Err}
use Rattle.sig_core.specs.declared.signal.Body.{Body}
use Rattle.sig_core.specs.declared.signal.Body.TheVariants.{Unique}
use Rattle.sig_core.specs.declared.signal.unique.UniqueSignal.{UniqueSignal}
use Rattle.sig_core.specs.declared.signal.unique.UniqueSignal.TheVariants.{TcUniqueReq, TcUniqueConf}
use Rattle.trace_bytes.specs.declared.kinds.signals.TheConstants as signals
use Rattle.trace_bytes.specs.UniqueSignals.{unique_signal_bytes, IsUniqueSignal, unique_of}
use Rattle.trace_bytes.specs.Bodies.{body_of, body_at, of_the_rest}
use Rattle.trace_bytes.proofs.Again.{Again, again, both, known}
use Rattle.trace_bytes.proofs.OperationsAgain.{again_op, again_uanswer}
use Rattle.trace_bytes.proofs.WordsAgain.{again_tx}

pub unique_again : (x : UniqueSignal) (rest : List ℕ) → IsUniqueSignal x
    → body_at (unique_signal_bytes x ++ rest) ≡ Ok (Unique x, rest)
unfolding unique_signal_bytes body_at body_of of_the_rest unique_of
unique_again (TcUniqueReq tx op) rest fits =
    known 120 body_of signals.TC_UNIQUE_REQ (drop 1 (unique_signal_bytes (TcUniqueReq tx op)) ++ rest)
    ((Unique (TcUniqueReq tx op)), rest) (lit≤ tt)
    (again (λ x. Unique (TcUniqueReq x.0 x.1)) (both again_tx again_op) (tx, op) rest (fits.0, fits.1))
unique_again (TcUniqueConf tx answer) rest fits =
    known 120 body_of signals.TC_UNIQUE_CONF (drop 1 (unique_signal_bytes (TcUniqueConf tx answer)) ++ rest)
    ((Unique (TcUniqueConf tx answer)), rest) (lit≤ tt)
    (again (λ x. Unique (TcUniqueConf x.0 x.1)) (both again_tx again_uanswer) (tx, answer) rest
    (fits.0, fits.1))
