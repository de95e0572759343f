-- Transactions that are gathered, after one of them was written back.
use Rattle.std.proofs.Common.{◌≡◌, ℕ, zero, suc, List, [], ◌∷◌, slice_get, slice_set, Some, refl, ap, sym}

-- what was there, written back, changes nothing
pub slice_set-same : {X : Type 0} (xs : List X) (i : ℕ) (x : X) → slice_get xs i ≡ Some x → slice_set xs i x ≡ xs
slice_set-same [] i x is = refl
slice_set-same (y ∷ ys) zero x is = let same : y ≡ x = cc in ap (λ z. z ∷ ys) (sym same)
slice_set-same (y ∷ ys) (suc i) x is = ap (λ zs. y ∷ zs) (slice_set-same ys i x is)

pub ruleset gathers = (slice_set-same)
