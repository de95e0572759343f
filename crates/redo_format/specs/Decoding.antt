-- What decoding answers.
use Rattle.std.specs.Prelude.{◌≡◌, ℕ, ◌-◌, List, ◌++◌, length, take, Result, Ok, Err}
use Rattle.sig_core.specs.declared.redo.Redo.{Redo}
use Rattle.redo_format.specs.declared.fault.FormatFault.{FormatFault}
use Rattle.redo_format.specs.declared.fault.FormatFault.TheVariants.{NotRecord}
use Rattle.sig_core.specs.Redo.{bytes_of}
use Rattle.redo_format.specs.Records.{IsRecord}
use Rattle.redo_format.specs.Reading.{record_at}

-- the record and its length, or the place of the first byte that doesn't fit
abbrev pub from_read : List ℕ → Result (Redo × List ℕ) ℕ → Result (Redo × ℕ) FormatFault
from_read bytes (Ok x) = Ok (x.0, length bytes - length x.1)
from_read bytes (Err left) = Err (NotRecord (length bytes - left))

abbrev pub decoded : List ℕ → Result (Redo × ℕ) FormatFault
decoded bytes = from_read bytes (record_at bytes)

-- a record, and how many bytes it takes: the bytes begin with its own
pub record IsDecoded (bytes : List ℕ) (found : Redo × ℕ) : Type 0 where
  pub is : IsRecord found.0
  pub front : take found.1 bytes ≡ bytes_of found.0
  pub len : found.1 ≡ length (bytes_of found.0)

-- where the bytes begin with those of a record, the answer is that record and their number
abbrev pub IsAnyRecord : List ℕ → Result (Redo × ℕ) FormatFault → Type 0
IsAnyRecord bytes answer =
    (redo : Redo) (rest : List ℕ) → IsRecord redo → bytes ≡ bytes_of redo ++ rest
    → answer ≡ Ok (redo, length (bytes_of redo))

-- no record's bytes begin with another one's
abbrev pub NoneBeginsAnother : Type 0
NoneBeginsAnother =
    (one other : Redo) (after more : List ℕ) → IsRecord one → IsRecord other
    → bytes_of one ++ after ≡ bytes_of other ++ more → one ≡ other
