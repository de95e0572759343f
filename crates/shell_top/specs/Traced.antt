-- What a session does whose words ask for its trace.
use Rattle.std.specs.Prelude.{◌≡◌, ℕ, ◌-◌, nat_lt, if◌then◌else◌, Bool, true, false, List, [], length, slice_get, Option}
use Rattle.std.specs.Prelude.{None, Some}
use Rattle.shell_top.specs.declared.ended.Ending.{Ending}
use Rattle.shell_top.specs.declared.ended.Ending.TheVariants.{Finished, NoMemory, WriteFault}
use Rattle.shell_top.specs.declared.telling.Telling.{Telling}
use Rattle.shell_top.specs.Seen.{Seen}
use Rattle.shell_top.specs.Session.{IsSession}
use Rattle.shell_top.specs.Telling.{IsTold}
use Rattle.shell_top.specs.Text.{fault_line, status_after}
use Rattle.shell_top.specs.TraceText.{too_long}
use Rattle.sig_core.specs.declared.log.Life.{Life}
use Rattle.sig_core.specs.declared.view.Shape.{Shape}
use Rattle.trace_bytes.specs.Lives.{trace_of}
use Rattle.trace_write.specs.declared.trace.TheConstants.{TRACE_BYTES}

-- the last of some lives, if there is one
abbrev pub last_life : List Life → Option Life
last_life lives = slice_get lives (length lives - 1)

-- the trace of a life, or no bytes where there is none
abbrev pub trace_of_any : Shape → Option Life → List ℕ
trace_of_any shape None = []
trace_of_any shape (Some life) = trace_of shape life

-- bytes that are to be told as a trace
abbrev pub unless_too_long : List ℕ → ℕ → Telling
unless_too_long bytes status =
    if nat_lt TRACE_BYTES (length bytes) then too_long else record { text = bytes; status = status }

-- whether the trace is told of a session that ends so: it was finished, or memory was wanting
abbrev pub has_trace : Ending → Bool
has_trace Finished = true
has_trace NoMemory = true
has_trace ending = false

-- what is told of a session that ends so, with these lives: the trace of the last one, or the line of its fault
abbrev pub traced : Shape → Ending → List Life → Telling
traced shape ending lives =
    if has_trace ending then unless_too_long (trace_of_any shape (last_life lives)) (status_after ending lives)
    else record { text = fault_line ending; status = status_after ending lives }

-- A session of a cluster of this shape, nobody heard the replies of which, and so no sink failed in it; and behind it
-- what is told of it was written.
pub record HasTraced (shape : Shape) (left left_now written written_now : Option (List ℕ))
    (ReadFailed WriteFailed : Type 0) (given now : Seen) (status : ℕ) (lives : List Life) : Type 0 where
  pub ending : Ending
  pub session : IsSession (Some shape) left left_now None None ReadFailed ⊥ given now ending lives
  pub unfailing : ending ≡ WriteFault → ⊥
  pub told : IsTold (traced shape ending lives) WriteFailed written written_now status
