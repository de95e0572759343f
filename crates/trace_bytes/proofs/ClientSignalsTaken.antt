-- What is read of these is what is written.
use Rattle.std.proofs.Common.{refl}
use Rattle.sig_core.specs.declared.signal.Body.TheVariants.{Client}
use Rattle.sig_core.specs.declared.signal.client.ClientSignal.TheVariants.{TcBeginReq, TcBeginConf, TcBeginRef}
use Rattle.sig_core.specs.declared.signal.client.ClientSignal.TheVariants.{TcKeyReq, TcKeyConf, TcCommitReq}
use Rattle.sig_core.specs.declared.signal.client.ClientSignal.TheVariants.{TcCommitConf, TcCommitAck, TcRollbackReq}
use Rattle.sig_core.specs.declared.signal.client.ClientSignal.TheVariants.{TcRollbackRep, TcKeyFailConf, TcKeyFailRef}
use Rattle.sig_core.specs.declared.signal.client.ClientSignal.TheVariants.{NfCompleteRep, ViewRep, TcWaitReq}
use Rattle.sig_core.specs.declared.signal.client.ClientSignal.TheVariants.{LqhWaitReq, LqhWaitConf, TcWaitConf, DumpReq}
use Rattle.sig_core.specs.declared.signal.client.ClientSignal.TheVariants.{DumpConf}
use Rattle.trace_bytes.specs.ClientSignals.{asking_of, client_signal_bytes, ending_of, failing_of, opening_of}
use Rattle.trace_bytes.specs.Bodies.{IsBody, body_bytes}
use Rattle.trace_bytes.proofs.Taken.{TakesKind, last_kind, last_plain, or_kind, or_plain, takes_both}
use Rattle.trace_bytes.proofs.CausesTaken.{takes_cause}
use Rattle.trace_bytes.proofs.ListsTaken.{takes_list}
use Rattle.trace_bytes.proofs.OperationsTaken.{takes_answer, takes_op}
use Rattle.trace_bytes.proofs.WordsTaken.{takes_key, takes_name, takes_opt_u64, takes_row, takes_tx, takes_u64}

pub opening_taken : TakesKind IsBody body_bytes opening_of 5 9
unfolding client_signal_bytes opening_of
opening_taken =
    or_kind IsBody body_bytes 5 (λ x. Client (TcBeginReq x)) takes_name (λ x fits. fits) (λ x fits. refl)
    (or_kind IsBody body_bytes 6 (λ x. Client (TcBeginConf x.0 x.1)) (takes_both takes_name takes_tx)
    (λ x fits. (fits.0, fits.1)) (λ x fits. refl)
    (or_kind IsBody body_bytes 7 (λ x. Client (TcBeginRef x)) takes_name (λ x fits. fits) (λ x fits. refl)
    (or_kind IsBody body_bytes 8 (λ x. Client (TcKeyReq x.0 x.1)) (takes_both takes_tx takes_op)
    (λ x fits. (fits.0, fits.1)) (λ x fits. refl)
    (last_kind IsBody body_bytes 9 (λ x. Client (TcKeyConf x.0 x.1)) (takes_both takes_tx takes_answer)
    (λ x fits. (fits.0, fits.1)) (λ x fits. refl)))))

pub ending_taken : TakesKind IsBody body_bytes ending_of 10 14
unfolding client_signal_bytes ending_of
ending_taken =
    or_kind IsBody body_bytes 10 (λ x. Client (TcCommitReq x)) takes_tx (λ x fits. fits) (λ x fits. refl)
    (or_kind IsBody body_bytes 11 (λ x. Client (TcCommitConf x.0 x.1)) (takes_both takes_tx takes_u64)
    (λ x fits. (fits.0, fits.1)) (λ x fits. refl)
    (or_kind IsBody body_bytes 12 (λ x. Client (TcCommitAck x)) takes_tx (λ x fits. fits) (λ x fits. refl)
    (or_kind IsBody body_bytes 13 (λ x. Client (TcRollbackReq x)) takes_tx (λ x fits. fits) (λ x fits. refl)
    (last_kind IsBody body_bytes 14 (λ x. Client (TcRollbackRep x.0 x.1)) (takes_both takes_tx takes_cause)
    (λ x fits. (fits.0, fits.1)) (λ x fits. refl)))))

pub failing_taken : TakesKind IsBody body_bytes failing_of 15 18
unfolding client_signal_bytes failing_of
failing_taken =
    or_kind IsBody body_bytes 15 (λ x. Client (TcKeyFailConf x.0 x.1)) (takes_both takes_tx takes_u64)
    (λ x fits. (fits.0, fits.1)) (λ x fits. refl)
    (or_kind IsBody body_bytes 16 (λ x. Client (TcKeyFailRef x)) takes_tx (λ x fits. fits) (λ x fits. refl)
    (or_plain IsBody body_bytes 17 (Client NfCompleteRep) tt refl
    (last_plain IsBody body_bytes 18 (Client ViewRep) tt refl)))

pub asking_taken : TakesKind IsBody body_bytes asking_of 19 24
unfolding client_signal_bytes asking_of
asking_taken =
    or_kind IsBody body_bytes 19 (λ x. Client (TcWaitReq x)) takes_tx (λ x fits. fits) (λ x fits. refl)
    (or_kind IsBody body_bytes 20 (λ x. Client (LqhWaitReq x.0 x.1)) (takes_both takes_tx takes_key)
    (λ x fits. (fits.0, fits.1)) (λ x fits. refl)
    (or_kind IsBody body_bytes 21 (λ x. Client (LqhWaitConf x.0 x.1)) (takes_both takes_tx takes_tx)
    (λ x fits. (fits.0, fits.1)) (λ x fits. refl)
    (or_kind IsBody body_bytes 22 (λ x. Client (TcWaitConf x.0 x.1)) (takes_both takes_tx takes_tx)
    (λ x fits. (fits.0, fits.1)) (λ x fits. refl)
    (or_kind IsBody body_bytes 23 (λ x. Client (DumpReq x)) takes_u64 (λ x fits. fits) (λ x fits. refl)
    (last_kind IsBody body_bytes 24 (λ x. Client (DumpConf x.0 x.1)) (takes_both (takes_list takes_row) takes_opt_u64)
    (λ x fits. (fits.0, fits.1)) (λ x fits. refl))))))
