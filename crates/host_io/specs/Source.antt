-- What a source in memory is seen as.
use Rattle.std.specs.Prelude.{ℕ, List}

-- the bytes that are left, the number of its next call, the calls that fail, and its count of faults
pub record Reading : Type 0 where
  pub left : List ℕ
  pub calls : ℕ
  pub fails : List ℕ
  pub faults : ℕ
