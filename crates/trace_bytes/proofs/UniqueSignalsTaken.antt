-- What is read of these is what is written.
use Rattle.std.proofs.Common.{refl}
use Rattle.sig_core.specs.declared.signal.Body.TheVariants.{Unique}
use Rattle.sig_core.specs.declared.signal.unique.UniqueSignal.TheVariants.{TcUniqueReq, TcUniqueConf}
use Rattle.trace_bytes.specs.UniqueSignals.{unique_of, unique_signal_bytes}
use Rattle.trace_bytes.specs.Bodies.{IsBody, body_bytes}
use Rattle.trace_bytes.proofs.Taken.{TakesKind, last_kind, or_kind, takes_both}
use Rattle.trace_bytes.proofs.OperationsTaken.{takes_op, takes_uanswer}
use Rattle.trace_bytes.proofs.WordsTaken.{takes_tx}

pub unique_taken : TakesKind IsBody body_bytes unique_of 119 120
unfolding unique_signal_bytes unique_of
unique_taken =
    or_kind IsBody body_bytes 119 (λ x. Unique (TcUniqueReq x.0 x.1)) (takes_both takes_tx takes_op)
    (λ x fits. (fits.0, fits.1)) (λ x fits. refl)
    (last_kind IsBody body_bytes 120 (λ x. Unique (TcUniqueConf x.0 x.1)) (takes_both takes_tx takes_uanswer)
    (λ x fits. (fits.0, fits.1)) (λ x fits. refl))
