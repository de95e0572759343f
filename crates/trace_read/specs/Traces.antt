-- What reading a trace answers.
use Rattle.std.specs.Prelude.{◌≡◌, ℕ, Result, Ok, Err}
use Rattle.sig_core.specs.declared.log.Life.{Life}
use Rattle.sig_core.specs.declared.view.Shape.{Shape}
use Rattle.trace_read.specs.declared.fault.TraceFault.{TraceFault}
use Rattle.trace_read.specs.declared.fault.TraceFault.TheVariants.{NotTrace, NoMemory}

-- the shape and the life, or the place of the first byte that doesn't fit
abbrev pub Answers : Result (Shape × Life) TraceFault → Result (Shape × Life) ℕ → Type 0
Answers (Ok x) read = read ≡ Ok x
Answers (Err (NotTrace at)) read = read ≡ Err at
Answers (Err NoMemory) read = Unit {0}
