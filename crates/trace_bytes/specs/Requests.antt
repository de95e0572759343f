-- The bytes of the requests of a shell.
use Rattle.std.specs.Prelude.{ℕ, ◌==◌, nat_lt, if◌then◌else◌, List, [], ◌∷◌}
use Rattle.sig_core.specs.declared.request.ApiReq.{ApiReq}
use Rattle.sig_core.specs.declared.request.ApiReq.TheVariants.{Begin, Operate, Commit, Abort, Batch, Kill, Cut, Tick}
use Rattle.sig_core.specs.declared.request.ApiReq.TheVariants.{Gcp, Lcp, Start, Crash, Restart, Rows, Digest, View}
use Rattle.sig_core.specs.declared.request.ApiReq.TheVariants.{Waits, Pending, Micro, Subscribe, Unsubscribe, Backup}
use Rattle.sig_core.specs.declared.request.ApiReq.TheVariants.{Dump, Unique}
use Rattle.redo_format.specs.Reading.{Reader, and_then, told, byte_at}
use Rattle.trace_bytes.specs.declared.kinds.requests.TheConstants as requests
use Rattle.trace_bytes.specs.Lines.{IsLine, line_at, line_bytes}
use Rattle.trace_bytes.specs.Lists.{AreItems, list_at, list_bytes, ◌&◌}
use Rattle.trace_bytes.specs.Numbers.{IsU16, IsU32, IsU8, u16_at, u16_bytes, u32_at, u32_bytes, u8_at, u8_bytes}
use Rattle.trace_bytes.specs.Operations.{IsOp, op_at, op_bytes}
use Rattle.trace_bytes.specs.Words.{IsName, IsOptU64, IsOptU8, always, name_at, name_bytes, opt_u64_at, opt_u64_bytes}
use Rattle.trace_bytes.specs.Words.{opt_u8_at, opt_u8_bytes}

unfoldable pub request_bytes : ApiReq → List ℕ
request_bytes (Begin name node) = requests.BEGIN ∷ u16_bytes name & opt_u8_bytes node
request_bytes (Operate name op) = requests.OPERATE ∷ name_bytes name & op_bytes op
request_bytes (Commit name) = requests.COMMIT ∷ u16_bytes name
request_bytes (Abort name) = requests.ABORT ∷ u16_bytes name
request_bytes (Batch lines) = requests.BATCH ∷ list_bytes line_bytes lines
request_bytes (Kill node) = requests.KILL ∷ u8_bytes node
request_bytes (Cut one other) = requests.CUT ∷ u8_bytes one & u8_bytes other
request_bytes (Tick round rounds) = requests.TICK ∷ u8_bytes round & u8_bytes rounds
request_bytes Gcp = requests.GCP ∷ []
request_bytes Lcp = requests.LCP ∷ []
request_bytes (Start node own) = requests.START ∷ u8_bytes node & opt_u64_bytes own
request_bytes Crash = requests.CRASH ∷ []
request_bytes Restart = requests.RESTART ∷ []
request_bytes (Rows node) = requests.ROWS ∷ u8_bytes node
request_bytes (Digest node) = requests.DIGEST ∷ u8_bytes node
request_bytes View = requests.VIEW ∷ []
request_bytes Waits = requests.WAITS ∷ []
request_bytes Pending = requests.PENDING ∷ []
request_bytes Micro = requests.MICRO ∷ []
request_bytes (Subscribe subscriber) = requests.SUBSCRIBE ∷ u16_bytes subscriber
request_bytes (Unsubscribe subscriber) = requests.UNSUBSCRIBE ∷ u16_bytes subscriber
request_bytes (Backup backup) = requests.BACKUP ∷ u32_bytes backup
request_bytes (Dump backup) = requests.DUMP ∷ u32_bytes backup
request_bytes (Unique name op) = requests.UNIQUE ∷ name_bytes name & op_bytes op

abbrev pub IsRequest : ApiReq → Type 0
IsRequest (Begin name node) = IsU16 name × IsOptU8 node
IsRequest (Operate name op) = IsName name × IsOp op
IsRequest (Commit name) = IsU16 name
IsRequest (Abort name) = IsU16 name
IsRequest (Batch lines) = AreItems IsLine lines
IsRequest (Kill node) = IsU8 node
IsRequest (Cut one other) = IsU8 one × IsU8 other
IsRequest (Tick round rounds) = IsU8 round × IsU8 rounds
IsRequest Gcp = Unit {0}
IsRequest Lcp = Unit {0}
IsRequest (Start node own) = IsU8 node × IsOptU64 own
IsRequest Crash = Unit {0}
IsRequest Restart = Unit {0}
IsRequest (Rows node) = IsU8 node
IsRequest (Digest node) = IsU8 node
IsRequest View = Unit {0}
IsRequest Waits = Unit {0}
IsRequest Pending = Unit {0}
IsRequest Micro = Unit {0}
IsRequest (Subscribe subscriber) = IsU16 subscriber
IsRequest (Unsubscribe subscriber) = IsU16 subscriber
IsRequest (Backup backup) = IsU32 backup
IsRequest (Dump backup) = IsU32 backup
IsRequest (Unique name op) = IsName name × IsOp op

unfoldable pub request_of_1 : ℕ → Reader ApiReq
request_of_1 number =
    if number == requests.BEGIN then told (λ x. Begin x.0 x.1) (and_then u16_at (λ _. opt_u8_at))
    else if number == requests.OPERATE then told (λ x. Operate x.0 x.1) (and_then name_at (λ _. op_at))
    else if number == requests.COMMIT then told (λ x. Commit x) u16_at
    else if number == requests.ABORT then told (λ x. Abort x) u16_at
    else if number == requests.BATCH then told (λ x. Batch x) (list_at line_at)
    else (told (λ x. Kill x) u8_at)

unfoldable pub request_of_2 : ℕ → Reader ApiReq
request_of_2 number =
    if number == requests.CUT then told (λ x. Cut x.0 x.1) (and_then u8_at (λ _. u8_at))
    else if number == requests.TICK then told (λ x. Tick x.0 x.1) (and_then u8_at (λ _. u8_at))
    else if number == requests.GCP then always Gcp
    else if number == requests.LCP then always Lcp
    else if number == requests.START then told (λ x. Start x.0 x.1) (and_then u8_at (λ _. opt_u64_at))
    else (always Crash)

unfoldable pub request_of_3 : ℕ → Reader ApiReq
request_of_3 number =
    if number == requests.RESTART then always Restart
    else if number == requests.ROWS then told (λ x. Rows x) u8_at
    else if number == requests.DIGEST then told (λ x. Digest x) u8_at
    else if number == requests.VIEW then always View
    else if number == requests.WAITS then always Waits
    else (always Pending)

unfoldable pub request_of_4 : ℕ → Reader ApiReq
request_of_4 number =
    if number == requests.MICRO then always Micro
    else if number == requests.SUBSCRIBE then told (λ x. Subscribe x) u16_at
    else if number == requests.UNSUBSCRIBE then told (λ x. Unsubscribe x) u16_at
    else if number == requests.BACKUP then told (λ x. Backup x) u32_at
    else if number == requests.DUMP then told (λ x. Dump x) u32_at
    else (told (λ x. Unique x.0 x.1) (and_then name_at (λ _. op_at)))

abbrev pub request_of : ℕ → Reader ApiReq
request_of number =
    if nat_lt number 6 then request_of_1 number else if nat_lt number 12 then request_of_2 number else if nat_lt number
    18 then request_of_3 number else request_of_4 number

unfoldable pub request_at : Reader ApiReq
request_at = told (λ x. x.1) (and_then (byte_at 0 23) request_of)
