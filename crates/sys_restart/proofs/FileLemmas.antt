-- The first byte of a file, as a read gives it.
use Rattle.std.proofs.Common.{◌≡◌, ◌∙◌, ℕ, List, [], ◌∷◌, ◌++◌, take, drop, get_or, ap}
use Rattle.std.proofs.Common.{arith}
use Rattle.host_io.specs.Disk.{IsRead}

-- the first byte of a file, or 0, is what a read of one byte leaves
pub gate_read : (file new : List ℕ) (count : ℕ) → IsRead file 0 (0 ∷ []) new count → get_or new 0 0 ≡ get_or file 0 0
gate_read [] new count is =
    let none : count ≡ 0 = omega (arith, is.most) in
    ap (λ (bytes : List ℕ). get_or bytes 0 0) is.copied
    ∙ ap (λ (n : ℕ). get_or (take n [] ++ drop n (0 ∷ [])) 0 0) none
gate_read (byte ∷ bytes) new count is =
    let one : count ≡ 1 = omega (arith, is.most) in
    ap (λ (bytes : List ℕ). get_or bytes 0 0) is.copied
    ∙ ap (λ (n : ℕ). get_or (take n (byte ∷ bytes) ++ drop n (0 ∷ [])) 0 0) one
