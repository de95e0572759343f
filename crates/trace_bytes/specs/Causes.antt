-- The bytes of how transactions and hosts end.
use Rattle.std.specs.Prelude.{ℕ, ◌==◌, nat_lt, if◌then◌else◌, List, [], ◌∷◌}
use Rattle.sig_core.specs.declared.outcome.AbortCause.{AbortCause}
use Rattle.sig_core.specs.declared.outcome.Outcome.{Outcome}
use Rattle.sig_core.specs.declared.outcome.StopCause.{StopCause}
use Rattle.sig_core.specs.declared.outcome.AbortCause.TheVariants.{Request, Timeout, NodeFail, LogFull, TableFull, Down}
use Rattle.sig_core.specs.declared.outcome.StopCause.TheVariants.{Killed, Excluded, NoGroup, Disk, Memory, Clock}
use Rattle.sig_core.specs.declared.outcome.StopCause.TheVariants.{Sibling}
use Rattle.sig_core.specs.declared.outcome.Outcome.TheVariants.{Committed, Aborted, Unknown}
use Rattle.redo_format.specs.Reading.{Reader, and_then, told, byte_at}
use Rattle.trace_bytes.specs.declared.kinds.causes.TheConstants as causes
use Rattle.trace_bytes.specs.declared.kinds.stops.TheConstants as stops
use Rattle.trace_bytes.specs.declared.kinds.outcomes.TheConstants as outcomes
use Rattle.trace_bytes.specs.Lists.{◌&◌}
use Rattle.trace_bytes.specs.Numbers.{IsU64, IsU8, u64_at, u64_bytes, u8_at, u8_bytes}
use Rattle.trace_bytes.specs.Words.{IsHost, always, host_at, host_bytes}

unfoldable pub cause_bytes : AbortCause → List ℕ
cause_bytes Request = causes.REQUEST ∷ []
cause_bytes Timeout = causes.TIMEOUT ∷ []
cause_bytes (NodeFail view) = causes.NODE_FAIL ∷ u64_bytes view
cause_bytes (LogFull used reserved need) = causes.LOG_FULL ∷ u64_bytes used & u64_bytes reserved & u64_bytes need
cause_bytes (TableFull rows) = causes.TABLE_FULL ∷ u64_bytes rows
cause_bytes Down = causes.DOWN ∷ []

abbrev pub IsCause : AbortCause → Type 0
IsCause Request = Unit {0}
IsCause Timeout = Unit {0}
IsCause (NodeFail view) = IsU64 view
IsCause (LogFull used reserved need) = IsU64 used × IsU64 reserved × IsU64 need
IsCause (TableFull rows) = IsU64 rows
IsCause Down = Unit {0}

unfoldable pub cause_of : ℕ → Reader AbortCause
cause_of number =
    if number == causes.REQUEST then always Request
    else if number == causes.TIMEOUT then always Timeout
    else if number == causes.NODE_FAIL then told (λ x. NodeFail x) u64_at
    else if number == causes.LOG_FULL then told (λ x. LogFull x.0 x.1.0 x.1.1)
    (and_then u64_at (λ _. and_then u64_at (λ _. u64_at)))
    else if number == causes.TABLE_FULL then told (λ x. TableFull x) u64_at
    else (always Down)

unfoldable pub cause_at : Reader AbortCause
cause_at = told (λ x. x.1) (and_then (byte_at 0 5) cause_of)

unfoldable pub stop_bytes : StopCause → List ℕ
stop_bytes Killed = stops.KILLED ∷ []
stop_bytes (Excluded view) = stops.EXCLUDED ∷ u64_bytes view
stop_bytes (NoGroup group) = stops.NO_GROUP ∷ u8_bytes group
stop_bytes (Disk count) = stops.DISK ∷ u64_bytes count
stop_bytes Memory = stops.MEMORY ∷ []
stop_bytes Clock = stops.CLOCK ∷ []
stop_bytes (Sibling host) = stops.SIBLING ∷ host_bytes host

abbrev pub IsStop : StopCause → Type 0
IsStop Killed = Unit {0}
IsStop (Excluded view) = IsU64 view
IsStop (NoGroup group) = IsU8 group
IsStop (Disk count) = IsU64 count
IsStop Memory = Unit {0}
IsStop Clock = Unit {0}
IsStop (Sibling host) = IsHost host

unfoldable pub stop_of_1 : ℕ → Reader StopCause
stop_of_1 number =
    if number == stops.KILLED then always Killed
    else if number == stops.EXCLUDED then told (λ x. Excluded x) u64_at
    else if number == stops.NO_GROUP then told (λ x. NoGroup x) u8_at
    else if number == stops.DISK then told (λ x. Disk x) u64_at
    else if number == stops.MEMORY then always Memory
    else (always Clock)

unfoldable pub stop_of_2 : ℕ → Reader StopCause
stop_of_2 number =
    told (λ x. Sibling x) host_at

abbrev pub stop_of : ℕ → Reader StopCause
stop_of number =
    if nat_lt number 6 then stop_of_1 number else stop_of_2 number

unfoldable pub stop_at : Reader StopCause
stop_at = told (λ x. x.1) (and_then (byte_at 0 6) stop_of)

unfoldable pub outcome_bytes : Outcome → List ℕ
outcome_bytes (Committed u64) = outcomes.COMMITTED ∷ u64_bytes u64
outcome_bytes (Aborted cause) = outcomes.ABORTED ∷ cause_bytes cause
outcome_bytes Unknown = outcomes.UNKNOWN ∷ []

abbrev pub IsOutcome : Outcome → Type 0
IsOutcome (Committed u64) = IsU64 u64
IsOutcome (Aborted cause) = IsCause cause
IsOutcome Unknown = Unit {0}

unfoldable pub outcome_of : ℕ → Reader Outcome
outcome_of number =
    if number == outcomes.COMMITTED then told (λ x. Committed x) u64_at
    else if number == outcomes.ABORTED then told (λ x. Aborted x) cause_at
    else (always Unknown)

unfoldable pub outcome_at : Reader Outcome
outcome_at = told (λ x. x.1) (and_then (byte_at 0 2) outcome_of)
