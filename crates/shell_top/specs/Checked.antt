-- What the program does where its words ask for a check.
use Rattle.std.specs.Prelude.{◌≡◌, ℕ, ◌+◌, ◌≤◌, List, [], length, Option}
use Rattle.std.specs.Io.KnownBytes.{Consumes, IsAtEnd}
use Rattle.shell_top.specs.declared.checked.Found.{Found}
use Rattle.shell_top.specs.declared.checked.Found.TheVariants.{NoMemory, ReadFault, Right, TooLong, Wrong}
use Rattle.shell_top.specs.declared.ended.Ending.TheVariants as ending
use Rattle.shell_top.specs.declared.telling.Telling.{Telling}
use Rattle.shell_top.specs.Telling.{IsTold, of_fault}
use Rattle.shell_top.specs.TraceText.{of_history, of_trace_fault, too_long}
use Rattle.sig_core.specs.declared.entry.Entry.{Entry}
use Rattle.sig_core.specs.declared.log.Life.{Life}
use Rattle.sig_core.specs.declared.view.Shape.{Shape}
use Rattle.trace_bytes.specs.Lives.{trace_of}
use Rattle.trace_check.specs.Answer.{IsBecause, IsHistoryOf}
use Rattle.trace_check.specs.RightLife.{IsRightLife}
use Rattle.trace_write.specs.declared.trace.TheConstants.{TRACE_BYTES}

-- these bytes are the trace of a life that the machine allows, and this is its history
pub record IsRight (input : List ℕ) (history : List Entry) : Type 0 where
  pub shape : Shape
  pub life : Life
  pub trace : input ≡ trace_of shape life
  pub right : IsRightLife shape life
  pub is_history : IsHistoryOf shape life history

-- what the check of these bytes finds
abbrev pub IsChecked : Found → List ℕ → Type 0
IsChecked (Right history) input = IsRight input history
IsChecked (Wrong fault) input = IsBecause input fault
IsChecked found input = ⊥

-- what is found of a source that gave these bytes: it is at its end, unless something else is found
abbrev pub IsFound : Found → (left_now : Option (List ℕ)) → List ℕ → Type 0 → Type 0
IsFound TooLong left_now input ReadFailed = length input ≡ TRACE_BYTES + 1
IsFound ReadFault left_now input ReadFailed = ReadFailed
IsFound NoMemory left_now input ReadFailed = Unit {0}
IsFound found left_now input ReadFailed =
    IsAtEnd left_now × (length input ≤ TRACE_BYTES) × IsChecked found input

-- a source was read, and this is found of what it gave
pub record HasFound (left left_now : Option (List ℕ)) (ReadFailed : Type 0) (found : Found) : Type 0 where
  pub input : List ℕ
  pub consumed : Consumes left left_now input
  pub is : IsFound found left_now input ReadFailed
  pub bounded : length input ≤ TRACE_BYTES + 1

-- what is told of it
abbrev pub telling_of : Found → Telling
telling_of (Right history) = of_history history
telling_of (Wrong fault) = of_trace_fault fault
telling_of TooLong = too_long
telling_of ReadFault = of_fault ending.ReadFault
telling_of NoMemory = of_fault ending.NoMemory

-- A trace was read, and what was found of it is told. No cluster lived.
pub record HasChecked (left left_now written written_now : Option (List ℕ)) (ReadFailed WriteFailed : Type 0)
    (status : ℕ) (lives : List Life) : Type 0 where
  pub found : Found
  pub has_found : HasFound left left_now ReadFailed found
  pub told : IsTold (telling_of found) WriteFailed written written_now status
  pub no_life : lives ≡ []
