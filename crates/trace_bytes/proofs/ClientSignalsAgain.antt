-- What is written of these signals is read again.
use Rattle.std.proofs.Common.{◌≡◌, ℕ, List, [], ◌∷◌, ◌++◌, drop, refl, lit≤}
use Rattle.std.specs.Prelude.{Result, Ok, Err}
use Rattle.sig_core.specs.declared.signal.Body.{Body}
use Rattle.sig_core.specs.declared.signal.Body.TheVariants.{Client}
use Rattle.sig_core.specs.declared.signal.client.ClientSignal.{ClientSignal}
use Rattle.sig_core.specs.declared.signal.client.ClientSignal.TheVariants.{TcBeginReq, TcBeginConf, TcBeginRef}
use Rattle.sig_core.specs.declared.signal.client.ClientSignal.TheVariants.{TcKeyReq, TcKeyConf, TcCommitReq}
use Rattle.sig_core.specs.declared.signal.client.ClientSignal.TheVariants.{TcCommitConf, TcCommitAck, TcRollbackReq}
use Rattle.sig_core.specs.declared.signal.client.ClientSignal.TheVariants.{TcRollbackRep, TcKeyFailConf, TcKeyFailRef}
use Rattle.sig_core.specs.declared.signal.client.ClientSignal.TheVariants.{NfCompleteRep, ViewRep, TcWaitReq}
use Rattle.sig_core.specs.declared.signal.client.ClientSignal.TheVariants.{LqhWaitReq, LqhWaitConf, TcWaitConf, DumpReq}
use Rattle.sig_core.specs.declared.signal.client.ClientSignal.TheVariants.{DumpConf}
use Rattle.trace_bytes.specs.declared.kinds.signals.TheConstants as signals
use Rattle.trace_bytes.specs.ClientSignals.{client_signal_bytes, IsClientSignal, opening_of, ending_of, failing_of}
use Rattle.trace_bytes.specs.ClientSignals.{asking_of}
use Rattle.trace_bytes.specs.Bodies.{body_of, body_at, of_a_client}
use Rattle.trace_bytes.proofs.Again.{Again, again, both, known}
use Rattle.trace_bytes.proofs.CausesAgain.{again_cause}
use Rattle.trace_bytes.proofs.ListsAgain.{again_list}
use Rattle.trace_bytes.proofs.OperationsAgain.{again_answer, again_op}
use Rattle.trace_bytes.proofs.WordsAgain.{again_key, again_name, again_opt_u64, again_row, again_tx, again_u64}

pub client_again : (x : ClientSignal) (rest : List ℕ) → IsClientSignal x
    → body_at (client_signal_bytes x ++ rest) ≡ Ok (Client x, rest)
unfolding client_signal_bytes body_at body_of of_a_client opening_of ending_of failing_of asking_of
client_again (TcBeginReq name) rest fits =
    known 120 body_of signals.TC_BEGIN_REQ (drop 1 (client_signal_bytes (TcBeginReq name)) ++ rest)
    ((Client (TcBeginReq name)), rest) (lit≤ tt) (again (λ x. Client (TcBeginReq x)) again_name name rest fits)
client_again (TcBeginConf name tx) rest fits =
    known 120 body_of signals.TC_BEGIN_CONF (drop 1 (client_signal_bytes (TcBeginConf name tx)) ++ rest)
    ((Client (TcBeginConf name tx)), rest) (lit≤ tt)
    (again (λ x. Client (TcBeginConf x.0 x.1)) (both again_name again_tx) (name, tx) rest (fits.0, fits.1))
client_again (TcBeginRef name) rest fits =
    known 120 body_of signals.TC_BEGIN_REF (drop 1 (client_signal_bytes (TcBeginRef name)) ++ rest)
    ((Client (TcBeginRef name)), rest) (lit≤ tt) (again (λ x. Client (TcBeginRef x)) again_name name rest fits)
client_again (TcKeyReq tx op) rest fits =
    known 120 body_of signals.TC_KEY_REQ (drop 1 (client_signal_bytes (TcKeyReq tx op)) ++ rest)
    ((Client (TcKeyReq tx op)), rest) (lit≤ tt)
    (again (λ x. Client (TcKeyReq x.0 x.1)) (both again_tx again_op) (tx, op) rest (fits.0, fits.1))
client_again (TcKeyConf tx answer) rest fits =
    known 120 body_of signals.TC_KEY_CONF (drop 1 (client_signal_bytes (TcKeyConf tx answer)) ++ rest)
    ((Client (TcKeyConf tx answer)), rest) (lit≤ tt)
    (again (λ x. Client (TcKeyConf x.0 x.1)) (both again_tx again_answer) (tx, answer) rest (fits.0, fits.1))
client_again (TcCommitReq tx) rest fits =
    known 120 body_of signals.TC_COMMIT_REQ (drop 1 (client_signal_bytes (TcCommitReq tx)) ++ rest)
    ((Client (TcCommitReq tx)), rest) (lit≤ tt) (again (λ x. Client (TcCommitReq x)) again_tx tx rest fits)
client_again (TcCommitConf tx epoch) rest fits =
    known 120 body_of signals.TC_COMMIT_CONF (drop 1 (client_signal_bytes (TcCommitConf tx epoch)) ++ rest)
    ((Client (TcCommitConf tx epoch)), rest) (lit≤ tt)
    (again (λ x. Client (TcCommitConf x.0 x.1)) (both again_tx again_u64) (tx, epoch) rest (fits.0, fits.1))
client_again (TcCommitAck tx) rest fits =
    known 120 body_of signals.TC_COMMIT_ACK (drop 1 (client_signal_bytes (TcCommitAck tx)) ++ rest)
    ((Client (TcCommitAck tx)), rest) (lit≤ tt) (again (λ x. Client (TcCommitAck x)) again_tx tx rest fits)
client_again (TcRollbackReq tx) rest fits =
    known 120 body_of signals.TC_ROLLBACK_REQ (drop 1 (client_signal_bytes (TcRollbackReq tx)) ++ rest)
    ((Client (TcRollbackReq tx)), rest) (lit≤ tt) (again (λ x. Client (TcRollbackReq x)) again_tx tx rest fits)
client_again (TcRollbackRep tx cause) rest fits =
    known 120 body_of signals.TC_ROLLBACK_REP (drop 1 (client_signal_bytes (TcRollbackRep tx cause)) ++ rest)
    ((Client (TcRollbackRep tx cause)), rest) (lit≤ tt)
    (again (λ x. Client (TcRollbackRep x.0 x.1)) (both again_tx again_cause) (tx, cause) rest (fits.0, fits.1))
client_again (TcKeyFailConf tx epoch) rest fits =
    known 120 body_of signals.TC_KEY_FAIL_CONF (drop 1 (client_signal_bytes (TcKeyFailConf tx epoch)) ++ rest)
    ((Client (TcKeyFailConf tx epoch)), rest) (lit≤ tt)
    (again (λ x. Client (TcKeyFailConf x.0 x.1)) (both again_tx again_u64) (tx, epoch) rest (fits.0, fits.1))
client_again (TcKeyFailRef tx) rest fits =
    known 120 body_of signals.TC_KEY_FAIL_REF (drop 1 (client_signal_bytes (TcKeyFailRef tx)) ++ rest)
    ((Client (TcKeyFailRef tx)), rest) (lit≤ tt) (again (λ x. Client (TcKeyFailRef x)) again_tx tx rest fits)
client_again NfCompleteRep rest fits =
    known 120 body_of signals.NF_COMPLETE_REP (drop 1 (client_signal_bytes NfCompleteRep) ++ rest)
    ((Client NfCompleteRep), rest) (lit≤ tt) refl
client_again ViewRep rest fits =
    known 120 body_of signals.VIEW_REP (drop 1 (client_signal_bytes ViewRep) ++ rest) ((Client ViewRep), rest) (lit≤ tt)
    refl
client_again (TcWaitReq tx) rest fits =
    known 120 body_of signals.TC_WAIT_REQ (drop 1 (client_signal_bytes (TcWaitReq tx)) ++ rest)
    ((Client (TcWaitReq tx)), rest) (lit≤ tt) (again (λ x. Client (TcWaitReq x)) again_tx tx rest fits)
client_again (LqhWaitReq tx key) rest fits =
    known 120 body_of signals.LQH_WAIT_REQ (drop 1 (client_signal_bytes (LqhWaitReq tx key)) ++ rest)
    ((Client (LqhWaitReq tx key)), rest) (lit≤ tt)
    (again (λ x. Client (LqhWaitReq x.0 x.1)) (both again_tx again_key) (tx, key) rest (fits.0, fits.1))
client_again (LqhWaitConf tx ahead) rest fits =
    known 120 body_of signals.LQH_WAIT_CONF (drop 1 (client_signal_bytes (LqhWaitConf tx ahead)) ++ rest)
    ((Client (LqhWaitConf tx ahead)), rest) (lit≤ tt)
    (again (λ x. Client (LqhWaitConf x.0 x.1)) (both again_tx again_tx) (tx, ahead) rest (fits.0, fits.1))
client_again (TcWaitConf tx ahead) rest fits =
    known 120 body_of signals.TC_WAIT_CONF (drop 1 (client_signal_bytes (TcWaitConf tx ahead)) ++ rest)
    ((Client (TcWaitConf tx ahead)), rest) (lit≤ tt)
    (again (λ x. Client (TcWaitConf x.0 x.1)) (both again_tx again_tx) (tx, ahead) rest (fits.0, fits.1))
client_again (DumpReq at) rest fits =
    known 120 body_of signals.DUMP_REQ (drop 1 (client_signal_bytes (DumpReq at)) ++ rest) ((Client (DumpReq at)), rest)
    (lit≤ tt) (again (λ x. Client (DumpReq x)) again_u64 at rest fits)
client_again (DumpConf rows next) rest fits =
    known 120 body_of signals.DUMP_CONF (drop 1 (client_signal_bytes (DumpConf rows next)) ++ rest)
    ((Client (DumpConf rows next)), rest) (lit≤ tt)
    (again (λ x. Client (DumpConf x.0 x.1)) (both (again_list again_row) again_opt_u64) (rows, next) rest
    (fits.0, fits.1))
