-- What stops a part of what is read stops all of it.
use Rattle.std.proofs.Common.{◌≡◌, ℕ, List, ap}
use Rattle.std.specs.Prelude.{Result, Ok, Err}
use Rattle.redo_format.specs.Reading.{◌>>=◌}
use Rattle.trace_read.specs.declared.stop.Stop.{Stop}
use Rattle.trace_read.specs.declared.stop.Stop.TheVariants.{Left, NoMemory}
use Rattle.trace_read.specs.Reading.{StopsAt}

pub stops : {A B : Type 0} (why : Stop) (read : Result (A × List ℕ) ℕ) (further : A × List ℕ → Result (B × List ℕ) ℕ)
    → StopsAt why read → StopsAt why (read >>= further)
stops (Left left) read further is = ap (λ r. r >>= further) is
stops NoMemory read further is = tt
