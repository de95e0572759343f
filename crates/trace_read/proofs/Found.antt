-- What was read is what the bytes are the trace of.
use Rattle.std.proofs.Common.{◌≡◌, ℕ, List}
use Rattle.std.specs.Prelude.{Result, Ok, Err, IfOk}
use Rattle.sig_core.specs.declared.log.Life.{Life}
use Rattle.sig_core.specs.declared.view.Shape.{Shape}
use Rattle.trace_bytes.specs.Laws.{AreBytes}
use Rattle.trace_bytes.specs.Lives.{IsLife, IsShape, read_of, trace_of}
use Rattle.trace_bytes.proofs.LivesTaken.{read_is_written}
use Rattle.trace_read.specs.Traces.{Answers}
use Rattle.trace_read.specs.declared.fault.TraceFault.{TraceFault}

pub found : (bytes : List ℕ) (result : Result (Shape × Life) TraceFault) → AreBytes bytes
    → Answers result (read_of bytes)
    → IfOk result (λ x. IsShape x.0 × IsLife x.1 × (bytes ≡ trace_of x.0 x.1))
found bytes (Ok x) are is = read_is_written bytes x.0 x.1 are is
found bytes (Err why) are is = tt
