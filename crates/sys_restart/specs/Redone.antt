-- What replaying redo makes of rows.
use Rattle.std.specs.Prelude.{ℕ, zero, suc, ◌+◌, ◌-◌, nat_lt, Bool, true, false, List, [], ◌∷◌, length, drop, slice_index, Result, Ok, Err, if◌then◌else◌}
use Rattle.sig_core.specs.Ring.{file_of, place_of}
use Rattle.sig_core.specs.Table.{Rows}
use Rattle.sig_core.specs.declared.fault.ReadFault.{ReadFault}
use Rattle.sig_core.specs.declared.redo.Redo.{Redo}
use Rattle.redo_format.specs.Decoding.{decoded}
use Rattle.redo_format.specs.declared.fault.FormatFault.{FormatFault}
use Rattle.redo_format.specs.declared.fault.FormatFault.TheVariants.{NotRecord}
use Rattle.redo_log.specs.Replaying.{damage, replayed}
use Rattle.sys_restart.specs.Files.{Files}

abbrev pub byte_if : Bool → ℕ → List ℕ → List ℕ
byte_if true byte behind = byte ∷ behind
byte_if false byte behind = []

-- The bytes of a log from a position on, as files have them: so many, or fewer where the file of the next one ends
-- before its place.
unfoldable pub log_of : Files → ℕ → ℕ → ℕ → List ℕ
log_of files parity from zero = []
log_of files parity from (suc more) =
    byte_if (nat_lt (place_of from) (length (files (file_of parity from))))
    (slice_index (files (file_of parity from)) (place_of from)) (log_of files parity (from + 1) more)

-- records, the newest first, and the bytes behind them
pub record Decoded : Type 0 where
  pub newest : List Redo
  pub rest : List ℕ

abbrev pub decode_on : (List Redo → List ℕ → Decoded) → List Redo → List ℕ → Result (Redo × ℕ) FormatFault → Decoded
decode_on further newest bytes (Err fault) = record { newest = newest; rest = bytes }
decode_on further newest bytes (Ok found) = further (found.0 ∷ newest) (drop found.1 bytes)

-- the records that bytes begin with, at most so many, behind others
unfoldable pub records_in : ℕ → List Redo → List ℕ → Decoded
records_in zero newest bytes = record { newest = newest; rest = bytes }
records_in (suc more) newest bytes = decode_on (records_in more) newest bytes (decoded bytes)

-- where bytes fit no record
abbrev pub fault_in : Result (Redo × ℕ) FormatFault → ℕ
fault_in (Ok found) = 0
fault_in (Err (NotRecord at)) = at

-- The rows after these records, unless something stands behind them that is none, or there should have been more bytes.
abbrev pub redone_by : ℕ → Rows → ℕ → ℕ → ℕ → List ℕ → Decoded → Result Rows ReadFault
redone_by epoch rows parity from count bytes d =
    if nat_lt 0 (length d.rest)
    then Err (damage parity from bytes (length bytes - length d.rest + fault_in (decoded d.rest)))
    else if nat_lt (length bytes) count then Err (damage parity from bytes (length bytes))
    else Ok (replayed epoch rows d.newest)

abbrev pub redone_in : ℕ → Rows → ℕ → ℕ → ℕ → List ℕ → Result Rows ReadFault
redone_in epoch rows parity from count bytes =
    redone_by epoch rows parity from count bytes (records_in (length bytes) [] bytes)

-- The rows after so many bytes of a log from a position on, as files have them: what was committed up to an epoch is
-- replayed onto them.
unfoldable pub redone : ℕ → Rows → Files → ℕ → ℕ → ℕ → Result Rows ReadFault
redone epoch rows files parity from count = redone_in epoch rows parity from count (log_of files parity from count)
