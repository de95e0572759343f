-- All bytes are the trace, or some are left.
use Rattle.std.proofs.Common.{◌≡◌, ℕ, ◌-◌, ◌≤◌, List, [], ◌∷◌, length, refl, ap, ◌∙◌, arith}
use Rattle.std.specs.Prelude.{Result, Ok, Err}
use Rattle.trace_bytes.specs.Lives.{whole}

pub none_left : {A : Type 0} (bytes rest : List ℕ) (x : A) (read : Result (A × List ℕ) ℕ) → read ≡ Ok (x, rest)
    → length rest ≤ 0
    → whole bytes read ≡ Ok x
none_left bytes [] x read is none = ap (whole bytes) is
none_left bytes (byte ∷ rest) x read is none = absurd (omega (arith, none))

pub some_left : {A : Type 0} (bytes rest : List ℕ) (x : A) (read : Result (A × List ℕ) ℕ) → read ≡ Ok (x, rest)
    → 1 ≤ length rest
    → whole bytes read ≡ Err (length bytes - length rest)
some_left bytes [] x read is some = absurd (omega (arith, some))
some_left bytes (byte ∷ rest) x read is some = ap (whole bytes) is

pub none_read : {A : Type 0} (bytes : List ℕ) (left : ℕ) (read : Result (A × List ℕ) ℕ) → read ≡ Err left
    → whole bytes read ≡ Err (length bytes - left)
none_read bytes left read is = ap (whole bytes) is

pub ruleset wholes = (none_left, some_left, none_read)
