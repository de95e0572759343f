-- The bytes of signals between the API and the blocks that serve it.
use Rattle.std.specs.Prelude.{ℕ, ◌==◌, nat_lt, if◌then◌else◌, List, [], ◌∷◌}
use Rattle.sig_core.specs.declared.signal.Body.{Body}
use Rattle.sig_core.specs.declared.signal.client.ClientSignal.{ClientSignal}
use Rattle.sig_core.specs.declared.signal.client.ClientSignal.TheVariants.{TcBeginReq, TcBeginConf, TcBeginRef}
use Rattle.sig_core.specs.declared.signal.client.ClientSignal.TheVariants.{TcKeyReq, TcKeyConf, TcCommitReq}
use Rattle.sig_core.specs.declared.signal.client.ClientSignal.TheVariants.{TcCommitConf, TcCommitAck, TcRollbackReq}
use Rattle.sig_core.specs.declared.signal.client.ClientSignal.TheVariants.{TcRollbackRep, TcKeyFailConf, TcKeyFailRef}
use Rattle.sig_core.specs.declared.signal.client.ClientSignal.TheVariants.{NfCompleteRep, ViewRep, TcWaitReq}
use Rattle.sig_core.specs.declared.signal.client.ClientSignal.TheVariants.{LqhWaitReq, LqhWaitConf, TcWaitConf, DumpReq}
use Rattle.sig_core.specs.declared.signal.client.ClientSignal.TheVariants.{DumpConf}
use Rattle.sig_core.specs.declared.signal.Body.TheVariants.{Client}
use Rattle.redo_format.specs.Reading.{Reader, and_then, told, byte_at}
use Rattle.trace_bytes.specs.declared.kinds.signals.TheConstants as signals
use Rattle.trace_bytes.specs.Causes.{IsCause, cause_at, cause_bytes}
use Rattle.trace_bytes.specs.Lists.{AreItems, list_at, list_bytes, ◌&◌}
use Rattle.trace_bytes.specs.Numbers.{IsU64, u64_at, u64_bytes}
use Rattle.trace_bytes.specs.Operations.{IsAnswer, IsOp, answer_at, answer_bytes, op_at, op_bytes}
use Rattle.trace_bytes.specs.Words.{IsKey, IsName, IsOptU64, IsRow, IsTx, always, key_at, key_bytes, name_at}
use Rattle.trace_bytes.specs.Words.{name_bytes, opt_u64_at, opt_u64_bytes, row_at, row_bytes, tx_at, tx_bytes}

unfoldable pub client_signal_bytes : ClientSignal → List ℕ
client_signal_bytes (TcBeginReq name) = signals.TC_BEGIN_REQ ∷ name_bytes name
client_signal_bytes (TcBeginConf name tx) = signals.TC_BEGIN_CONF ∷ name_bytes name & tx_bytes tx
client_signal_bytes (TcBeginRef name) = signals.TC_BEGIN_REF ∷ name_bytes name
client_signal_bytes (TcKeyReq tx op) = signals.TC_KEY_REQ ∷ tx_bytes tx & op_bytes op
client_signal_bytes (TcKeyConf tx answer) = signals.TC_KEY_CONF ∷ tx_bytes tx & answer_bytes answer
client_signal_bytes (TcCommitReq tx) = signals.TC_COMMIT_REQ ∷ tx_bytes tx
client_signal_bytes (TcCommitConf tx epoch) = signals.TC_COMMIT_CONF ∷ tx_bytes tx & u64_bytes epoch
client_signal_bytes (TcCommitAck tx) = signals.TC_COMMIT_ACK ∷ tx_bytes tx
client_signal_bytes (TcRollbackReq tx) = signals.TC_ROLLBACK_REQ ∷ tx_bytes tx
client_signal_bytes (TcRollbackRep tx cause) = signals.TC_ROLLBACK_REP ∷ tx_bytes tx & cause_bytes cause
client_signal_bytes (TcKeyFailConf tx epoch) = signals.TC_KEY_FAIL_CONF ∷ tx_bytes tx & u64_bytes epoch
client_signal_bytes (TcKeyFailRef tx) = signals.TC_KEY_FAIL_REF ∷ tx_bytes tx
client_signal_bytes NfCompleteRep = signals.NF_COMPLETE_REP ∷ []
client_signal_bytes ViewRep = signals.VIEW_REP ∷ []
client_signal_bytes (TcWaitReq tx) = signals.TC_WAIT_REQ ∷ tx_bytes tx
client_signal_bytes (LqhWaitReq tx key) = signals.LQH_WAIT_REQ ∷ tx_bytes tx & key_bytes key
client_signal_bytes (LqhWaitConf tx ahead) = signals.LQH_WAIT_CONF ∷ tx_bytes tx & tx_bytes ahead
client_signal_bytes (TcWaitConf tx ahead) = signals.TC_WAIT_CONF ∷ tx_bytes tx & tx_bytes ahead
client_signal_bytes (DumpReq at) = signals.DUMP_REQ ∷ u64_bytes at
client_signal_bytes (DumpConf rows next) = signals.DUMP_CONF ∷ list_bytes row_bytes rows & opt_u64_bytes next

abbrev pub IsClientSignal : ClientSignal → Type 0
IsClientSignal (TcBeginReq name) = IsName name
IsClientSignal (TcBeginConf name tx) = IsName name × IsTx tx
IsClientSignal (TcBeginRef name) = IsName name
IsClientSignal (TcKeyReq tx op) = IsTx tx × IsOp op
IsClientSignal (TcKeyConf tx answer) = IsTx tx × IsAnswer answer
IsClientSignal (TcCommitReq tx) = IsTx tx
IsClientSignal (TcCommitConf tx epoch) = IsTx tx × IsU64 epoch
IsClientSignal (TcCommitAck tx) = IsTx tx
IsClientSignal (TcRollbackReq tx) = IsTx tx
IsClientSignal (TcRollbackRep tx cause) = IsTx tx × IsCause cause
IsClientSignal (TcKeyFailConf tx epoch) = IsTx tx × IsU64 epoch
IsClientSignal (TcKeyFailRef tx) = IsTx tx
IsClientSignal NfCompleteRep = Unit {0}
IsClientSignal ViewRep = Unit {0}
IsClientSignal (TcWaitReq tx) = IsTx tx
IsClientSignal (LqhWaitReq tx key) = IsTx tx × IsKey key
IsClientSignal (LqhWaitConf tx ahead) = IsTx tx × IsTx ahead
IsClientSignal (TcWaitConf tx ahead) = IsTx tx × IsTx ahead
IsClientSignal (DumpReq at) = IsU64 at
IsClientSignal (DumpConf rows next) = AreItems IsRow rows × IsOptU64 next

unfoldable pub opening_of : ℕ → Reader Body
opening_of number =
    if number == signals.TC_BEGIN_REQ then told (λ x. Client (TcBeginReq x)) name_at
    else if number == signals.TC_BEGIN_CONF then told (λ x. Client (TcBeginConf x.0 x.1))
    (and_then name_at (λ _. tx_at))
    else if number == signals.TC_BEGIN_REF then told (λ x. Client (TcBeginRef x)) name_at
    else if number == signals.TC_KEY_REQ then told (λ x. Client (TcKeyReq x.0 x.1)) (and_then tx_at (λ _. op_at))
    else (told (λ x. Client (TcKeyConf x.0 x.1)) (and_then tx_at (λ _. answer_at)))

unfoldable pub ending_of : ℕ → Reader Body
ending_of number =
    if number == signals.TC_COMMIT_REQ then told (λ x. Client (TcCommitReq x)) tx_at
    else if number == signals.TC_COMMIT_CONF then told (λ x. Client (TcCommitConf x.0 x.1))
    (and_then tx_at (λ _. u64_at))
    else if number == signals.TC_COMMIT_ACK then told (λ x. Client (TcCommitAck x)) tx_at
    else if number == signals.TC_ROLLBACK_REQ then told (λ x. Client (TcRollbackReq x)) tx_at
    else (told (λ x. Client (TcRollbackRep x.0 x.1)) (and_then tx_at (λ _. cause_at)))

unfoldable pub failing_of : ℕ → Reader Body
failing_of number =
    if number == signals.TC_KEY_FAIL_CONF then told (λ x. Client (TcKeyFailConf x.0 x.1)) (and_then tx_at (λ _. u64_at))
    else if number == signals.TC_KEY_FAIL_REF then told (λ x. Client (TcKeyFailRef x)) tx_at
    else if number == signals.NF_COMPLETE_REP then always (Client NfCompleteRep)
    else (always (Client ViewRep))

unfoldable pub asking_of : ℕ → Reader Body
asking_of number =
    if number == signals.TC_WAIT_REQ then told (λ x. Client (TcWaitReq x)) tx_at
    else if number == signals.LQH_WAIT_REQ then told (λ x. Client (LqhWaitReq x.0 x.1)) (and_then tx_at (λ _. key_at))
    else if number == signals.LQH_WAIT_CONF then told (λ x. Client (LqhWaitConf x.0 x.1)) (and_then tx_at (λ _. tx_at))
    else if number == signals.TC_WAIT_CONF then told (λ x. Client (TcWaitConf x.0 x.1)) (and_then tx_at (λ _. tx_at))
    else if number == signals.DUMP_REQ then told (λ x. Client (DumpReq x)) u64_at
    else (told (λ x. Client (DumpConf x.0 x.1)) (and_then (list_at row_at) (λ _. opt_u64_at)))
