-- What a sink in memory is seen as.
use Rattle.std.specs.Prelude.{ℕ, List}

-- the bytes that were written, the number of its next call, the calls that fail, and its count of faults
pub record Writing : Type 0 where
  pub written : List ℕ
  pub calls : ℕ
  pub fails : List ℕ
  pub faults : ℕ
