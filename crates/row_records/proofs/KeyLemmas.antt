-- Keys, compared.
use Rattle.std.proofs.Common.{◌≡◌, ℕ, true, List}
use Rattle.std.specs.Cmp.Lexicographic.{bytes_decides}
use Rattle.sig_core.specs.Same.{same_key}

-- keys that compare equal are equal
pub same : (a b : List ℕ) → same_key a b ≡ true → a ≡ b
same a b = (bytes_decides a b).0
