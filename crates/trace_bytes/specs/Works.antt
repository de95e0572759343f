-- The bytes of work that a block goes on with.
use Rattle.std.specs.Prelude.{ℕ, ◌==◌, nat_lt, if◌then◌else◌, List, [], ◌∷◌}
use Rattle.sig_core.specs.declared.signal.host.Work.{Work}
use Rattle.sig_core.specs.declared.signal.host.Work.TheVariants.{Request, Transaction, Installation, Held, Granted}
use Rattle.sig_core.specs.declared.signal.host.Work.TheVariants.{Expired, Report, Members, Flush, Walk, Changes}
use Rattle.redo_format.specs.Reading.{Reader, and_then, told, byte_at}
use Rattle.trace_bytes.specs.declared.kinds.works.TheConstants as works
use Rattle.trace_bytes.specs.Lists.{◌&◌}
use Rattle.trace_bytes.specs.Numbers.{IsU64, u64_at, u64_bytes}
use Rattle.trace_bytes.specs.Requests.{IsRequest, request_at, request_bytes}
use Rattle.trace_bytes.specs.Words.{IsTx, always, tx_at, tx_bytes}

unfoldable pub work_bytes : Work → List ℕ
work_bytes (Request request) = works.REQUEST ∷ request_bytes request
work_bytes (Transaction tx) = works.TRANSACTION ∷ tx_bytes tx
work_bytes Installation = works.INSTALLATION ∷ []
work_bytes Held = works.HELD ∷ []
work_bytes Granted = works.GRANTED ∷ []
work_bytes Expired = works.EXPIRED ∷ []
work_bytes Report = works.REPORT ∷ []
work_bytes Members = works.MEMBERS ∷ []
work_bytes Flush = works.FLUSH ∷ []
work_bytes Walk = works.WALK ∷ []
work_bytes (Changes u64) = works.CHANGES ∷ u64_bytes u64

abbrev pub IsWork : Work → Type 0
IsWork (Request request) = IsRequest request
IsWork (Transaction tx) = IsTx tx
IsWork Installation = Unit {0}
IsWork Held = Unit {0}
IsWork Granted = Unit {0}
IsWork Expired = Unit {0}
IsWork Report = Unit {0}
IsWork Members = Unit {0}
IsWork Flush = Unit {0}
IsWork Walk = Unit {0}
IsWork (Changes u64) = IsU64 u64

unfoldable pub work_of_1 : ℕ → Reader Work
work_of_1 number =
    if number == works.REQUEST then told (λ x. Request x) request_at
    else if number == works.TRANSACTION then told (λ x. Transaction x) tx_at
    else if number == works.INSTALLATION then always Installation
    else if number == works.HELD then always Held
    else if number == works.GRANTED then always Granted
    else (always Expired)

unfoldable pub work_of_2 : ℕ → Reader Work
work_of_2 number =
    if number == works.REPORT then always Report
    else if number == works.MEMBERS then always Members
    else if number == works.FLUSH then always Flush
    else if number == works.WALK then always Walk
    else (told (λ x. Changes x) u64_at)

abbrev pub work_of : ℕ → Reader Work
work_of number =
    if nat_lt number 6 then work_of_1 number else work_of_2 number

unfoldable pub work_at : Reader Work
work_at = told (λ x. x.1) (and_then (byte_at 0 10) work_of)
