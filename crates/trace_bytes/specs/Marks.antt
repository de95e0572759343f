-- The bytes of marks.
use Rattle.std.specs.Prelude.{ℕ, ◌==◌, nat_lt, if◌then◌else◌, List, [], ◌∷◌}
use Rattle.sig_core.specs.declared.mark.Mark.{Mark}
use Rattle.sig_core.specs.declared.mark.Mark.TheVariants.{Prepared, Decided, Applied, Done, Expired, Promised}
use Rattle.sig_core.specs.declared.mark.Mark.TheVariants.{Installed, Reported, Durable, CutOff, Down, Stopped, Closed}
use Rattle.redo_format.specs.Reading.{Reader, and_then, told, byte_at}
use Rattle.trace_bytes.specs.declared.kinds.marks.TheConstants as marks
use Rattle.trace_bytes.specs.Causes.{IsOutcome, IsStop, outcome_at, outcome_bytes, stop_at, stop_bytes}
use Rattle.trace_bytes.specs.Lists.{◌&◌}
use Rattle.trace_bytes.specs.Numbers.{IsU64, IsU8, u64_at, u64_bytes, u8_at, u8_bytes}
use Rattle.trace_bytes.specs.Words.{IsHost, IsKey, IsTx, IsView, always, host_at, host_bytes, key_at, key_bytes, tx_at}
use Rattle.trace_bytes.specs.Words.{tx_bytes, view_at, view_bytes}

unfoldable pub mark_bytes : Mark → List ℕ
mark_bytes (Prepared tx key) = marks.PREPARED ∷ tx_bytes tx & key_bytes key
mark_bytes (Decided tx epoch) = marks.DECIDED ∷ tx_bytes tx & u64_bytes epoch
mark_bytes (Applied tx key) = marks.APPLIED ∷ tx_bytes tx & key_bytes key
mark_bytes (Done tx key) = marks.DONE ∷ tx_bytes tx & key_bytes key
mark_bytes (Expired tx key) = marks.EXPIRED ∷ tx_bytes tx & key_bytes key
mark_bytes (Promised number) = marks.PROMISED ∷ u64_bytes number
mark_bytes (Installed view) = marks.INSTALLED ∷ view_bytes view
mark_bytes (Reported tx outcome) = marks.REPORTED ∷ tx_bytes tx & outcome_bytes outcome
mark_bytes (Durable epoch) = marks.DURABLE ∷ u64_bytes epoch
mark_bytes (CutOff host) = marks.CUT_OFF ∷ host_bytes host
mark_bytes (Down group) = marks.DOWN ∷ u8_bytes group
mark_bytes (Stopped cause) = marks.STOPPED ∷ stop_bytes cause
mark_bytes (Closed epoch) = marks.CLOSED ∷ u64_bytes epoch

abbrev pub IsMark : Mark → Type 0
IsMark (Prepared tx key) = IsTx tx × IsKey key
IsMark (Decided tx epoch) = IsTx tx × IsU64 epoch
IsMark (Applied tx key) = IsTx tx × IsKey key
IsMark (Done tx key) = IsTx tx × IsKey key
IsMark (Expired tx key) = IsTx tx × IsKey key
IsMark (Promised number) = IsU64 number
IsMark (Installed view) = IsView view
IsMark (Reported tx outcome) = IsTx tx × IsOutcome outcome
IsMark (Durable epoch) = IsU64 epoch
IsMark (CutOff host) = IsHost host
IsMark (Down group) = IsU8 group
IsMark (Stopped cause) = IsStop cause
IsMark (Closed epoch) = IsU64 epoch

unfoldable pub mark_of_1 : ℕ → Reader Mark
mark_of_1 number =
    if number == marks.PREPARED then told (λ x. Prepared x.0 x.1) (and_then tx_at (λ _. key_at))
    else if number == marks.DECIDED then told (λ x. Decided x.0 x.1) (and_then tx_at (λ _. u64_at))
    else if number == marks.APPLIED then told (λ x. Applied x.0 x.1) (and_then tx_at (λ _. key_at))
    else if number == marks.DONE then told (λ x. Done x.0 x.1) (and_then tx_at (λ _. key_at))
    else if number == marks.EXPIRED then told (λ x. Expired x.0 x.1) (and_then tx_at (λ _. key_at))
    else (told (λ x. Promised x) u64_at)

unfoldable pub mark_of_2 : ℕ → Reader Mark
mark_of_2 number =
    if number == marks.INSTALLED then told (λ x. Installed x) view_at
    else if number == marks.REPORTED then told (λ x. Reported x.0 x.1) (and_then tx_at (λ _. outcome_at))
    else if number == marks.DURABLE then told (λ x. Durable x) u64_at
    else if number == marks.CUT_OFF then told (λ x. CutOff x) host_at
    else if number == marks.DOWN then told (λ x. Down x) u8_at
    else (told (λ x. Stopped x) stop_at)

unfoldable pub mark_of_3 : ℕ → Reader Mark
mark_of_3 number =
    told (λ x. Closed x) u64_at

abbrev pub mark_of : ℕ → Reader Mark
mark_of number =
    if nat_lt number 6 then mark_of_1 number else if nat_lt number 12 then mark_of_2 number else mark_of_3 number

unfoldable pub mark_at : Reader Mark
mark_at = told (λ x. x.1) (and_then (byte_at 0 12) mark_of)
