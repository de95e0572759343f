-- What writing and reading are to each other.
use Rattle.std.specs.Prelude.{◌≡◌, ℕ, ◌<◌, List, get_or, Ok}
use Rattle.sig_core.specs.declared.log.Life.{Life}
use Rattle.sig_core.specs.declared.view.Shape.{Shape}
use Rattle.trace_bytes.specs.Lives.{IsLife, IsShape, read_of, trace_of}

-- the trace of a life is read as that life
abbrev pub TracesAreRead : Type 0
TracesAreRead =
    (shape : Shape) (life : Life) → IsShape shape → IsLife life → read_of (trace_of shape life) ≡ Ok (shape, life)

-- no two lives have one trace
abbrev pub TracesDiffer : Type 0
TracesDiffer =
    (one other : Shape) (life further : Life) → IsShape one → IsLife life → IsShape other → IsLife further
    → trace_of one life ≡ trace_of other further → (one ≡ other) × (life ≡ further)

-- each is a byte
abbrev pub AreBytes : List ℕ → Type 0
AreBytes bytes = (i : ℕ) → get_or bytes i 0 < 256

-- bytes that are read as a life are its trace
abbrev pub ReadIsWritten : Type 0
ReadIsWritten =
    (bytes : List ℕ) (shape : Shape) (life : Life) → AreBytes bytes → read_of bytes ≡ Ok (shape, life)
    → IsShape shape × IsLife life × (bytes ≡ trace_of shape life)
