-- What is written of these is read again.
use Rattle.std.proofs.Common.{◌≡◌, ℕ, List, [], ◌∷◌, ◌++◌, drop, refl, lit≤}
use Rattle.std.specs.Prelude.{Result, Ok, Err}
use Rattle.sig_core.specs.declared.outcome.AbortCause.{AbortCause}
use Rattle.sig_core.specs.declared.outcome.AbortCause.TheVariants.{Request, Timeout, NodeFail, LogFull, TableFull, Down}
use Rattle.trace_bytes.specs.declared.kinds.causes.TheConstants as causes
use Rattle.sig_core.specs.declared.outcome.StopCause.{StopCause}
use Rattle.sig_core.specs.declared.outcome.StopCause.TheVariants.{Killed, Excluded, NoGroup, Disk, Memory, Clock}
use Rattle.sig_core.specs.declared.outcome.StopCause.TheVariants.{Sibling}
use Rattle.trace_bytes.specs.declared.kinds.stops.TheConstants as stops
use Rattle.sig_core.specs.declared.outcome.Outcome.{Outcome}
use Rattle.sig_core.specs.declared.outcome.Outcome.TheVariants.{Committed, Aborted, Unknown}
use Rattle.trace_bytes.specs.declared.kinds.outcomes.TheConstants as outcomes
use Rattle.trace_bytes.specs.Causes.{cause_bytes, IsCause, cause_of, cause_at, stop_bytes, IsStop, stop_of, stop_at}
use Rattle.trace_bytes.specs.Causes.{stop_of_1, stop_of_2, outcome_bytes, IsOutcome, outcome_of, outcome_at}
use Rattle.trace_bytes.proofs.Again.{Again, again, both, known}
use Rattle.trace_bytes.proofs.WordsAgain.{again_host, again_u64, again_u8}

cause_again : (x : AbortCause) (rest : List ℕ) → IsCause x → cause_at (cause_bytes x ++ rest) ≡ Ok (x, rest)
unfolding cause_bytes cause_at cause_of
cause_again Request rest fits =
    known 5 cause_of causes.REQUEST (drop 1 (cause_bytes Request) ++ rest) (Request, rest) (lit≤ tt) refl
cause_again Timeout rest fits =
    known 5 cause_of causes.TIMEOUT (drop 1 (cause_bytes Timeout) ++ rest) (Timeout, rest) (lit≤ tt) refl
cause_again (NodeFail view) rest fits =
    known 5 cause_of causes.NODE_FAIL (drop 1 (cause_bytes (NodeFail view)) ++ rest) ((NodeFail view), rest) (lit≤ tt)
    (again (λ x. NodeFail x) again_u64 view rest fits)
cause_again (LogFull used reserved need) rest fits =
    known 5 cause_of causes.LOG_FULL (drop 1 (cause_bytes (LogFull used reserved need)) ++ rest)
    ((LogFull used reserved need), rest) (lit≤ tt)
    (again (λ x. LogFull x.0 x.1.0 x.1.1) (both again_u64 (both again_u64 again_u64)) (used, (reserved, need))
    rest (fits.0, (fits.1, fits.2)))
cause_again (TableFull rows) rest fits =
    known 5 cause_of causes.TABLE_FULL (drop 1 (cause_bytes (TableFull rows)) ++ rest) ((TableFull rows), rest)
    (lit≤ tt) (again (λ x. TableFull x) again_u64 rows rest fits)
cause_again Down rest fits =
    known 5 cause_of causes.DOWN (drop 1 (cause_bytes Down) ++ rest) (Down, rest) (lit≤ tt) refl

pub again_cause : Again IsCause cause_bytes cause_at
again_cause = record { reads = cause_again }

stop_again : (x : StopCause) (rest : List ℕ) → IsStop x → stop_at (stop_bytes x ++ rest) ≡ Ok (x, rest)
unfolding stop_bytes stop_at stop_of_1 stop_of_2
stop_again Killed rest fits =
    known 6 stop_of stops.KILLED (drop 1 (stop_bytes Killed) ++ rest) (Killed, rest) (lit≤ tt) refl
stop_again (Excluded view) rest fits =
    known 6 stop_of stops.EXCLUDED (drop 1 (stop_bytes (Excluded view)) ++ rest) ((Excluded view), rest) (lit≤ tt)
    (again (λ x. Excluded x) again_u64 view rest fits)
stop_again (NoGroup group) rest fits =
    known 6 stop_of stops.NO_GROUP (drop 1 (stop_bytes (NoGroup group)) ++ rest) ((NoGroup group), rest) (lit≤ tt)
    (again (λ x. NoGroup x) again_u8 group rest fits)
stop_again (Disk count) rest fits =
    known 6 stop_of stops.DISK (drop 1 (stop_bytes (Disk count)) ++ rest) ((Disk count), rest) (lit≤ tt)
    (again (λ x. Disk x) again_u64 count rest fits)
stop_again Memory rest fits =
    known 6 stop_of stops.MEMORY (drop 1 (stop_bytes Memory) ++ rest) (Memory, rest) (lit≤ tt) refl
stop_again Clock rest fits =
    known 6 stop_of stops.CLOCK (drop 1 (stop_bytes Clock) ++ rest) (Clock, rest) (lit≤ tt) refl
stop_again (Sibling host) rest fits =
    known 6 stop_of stops.SIBLING (drop 1 (stop_bytes (Sibling host)) ++ rest) ((Sibling host), rest) (lit≤ tt)
    (again (λ x. Sibling x) again_host host rest fits)

pub again_stop : Again IsStop stop_bytes stop_at
again_stop = record { reads = stop_again }

outcome_again : (x : Outcome) (rest : List ℕ) → IsOutcome x → outcome_at (outcome_bytes x ++ rest) ≡ Ok (x, rest)
unfolding outcome_bytes outcome_at outcome_of
outcome_again (Committed u64) rest fits =
    known 2 outcome_of outcomes.COMMITTED (drop 1 (outcome_bytes (Committed u64)) ++ rest) ((Committed u64), rest)
    (lit≤ tt) (again (λ x. Committed x) again_u64 u64 rest fits)
outcome_again (Aborted cause) rest fits =
    known 2 outcome_of outcomes.ABORTED (drop 1 (outcome_bytes (Aborted cause)) ++ rest) ((Aborted cause), rest)
    (lit≤ tt) (again (λ x. Aborted x) again_cause cause rest fits)
outcome_again Unknown rest fits =
    known 2 outcome_of outcomes.UNKNOWN (drop 1 (outcome_bytes Unknown) ++ rest) (Unknown, rest) (lit≤ tt) refl

pub again_outcome : Again IsOutcome outcome_bytes outcome_at
again_outcome = record { reads = outcome_again }
