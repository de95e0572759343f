-- What the program writes last, and its status behind that.
use Rattle.std.specs.Prelude.{◌≡◌, ℕ, ◌⊎◌, List, Option}
use Rattle.std.specs.Io.KnownBytes.{Appends}
use Rattle.shell_top.specs.declared.ended.Ending.{Ending}
use Rattle.shell_top.specs.declared.ended.Ending.TheVariants.{NoMemory, WriteFault}
use Rattle.shell_top.specs.declared.telling.Telling.{Telling}
use Rattle.shell_top.specs.Printed.{AppendsPart}
use Rattle.shell_top.specs.Text.{fault_line, status_of}

-- the line of a fault, if it has one, and its status
abbrev pub of_fault : Ending → Telling
of_fault ending = record { text = fault_line ending; status = status_of ending }

-- What was to be told was written, and the status is the one that was meant; or the sink failed behind a first part of
-- it, and the status tells that; or memory was wanting, and nothing was written.
abbrev pub IsTold : Telling → Type 0 → (written written_now : Option (List ℕ)) → ℕ → Type 0
IsTold telling WriteFailed written written_now status =
    ((status ≡ telling.status) × Appends written written_now telling.text)
    ⊎ (((status ≡ status_of WriteFault) × WriteFailed × AppendsPart written written_now telling.text)
    ⊎ ((status ≡ status_of NoMemory) × (written_now ≡ written)))
