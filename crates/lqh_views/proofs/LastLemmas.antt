-- The last entry before a place that passes a test.
use Rattle.std.proofs.Common.{◌≡◌, ℕ, zero, suc, ◌-◌, ◌<◌, Bool, true, false, List, refl, arith}
use Rattle.std.specs.Prelude.{IfSome, Option, None, Some, slice_get}
use Rattle.lqh_views.specs.Report.{found_at, found_if, last_before}

-- one step down
pub last-down : {X : Type 0} (p : X → Bool) (xs : List X) (at : ℕ) → 0 < at
    → last_before p xs at ≡ found_at p (at - 1) (last_before p xs (at - 1)) (slice_get xs (at - 1))
last-down p xs zero less = absurd (omega (arith, less))
last-down p xs (suc n) less =
    let same : suc n - 1 ≡ n = omega arith in
    rw same refl

-- it stands there, and passes
pub record IsThere {X : Type 0} (p : X → Bool) (xs : List X) (found : ℕ × X) : Type 0 where
  pub there : slice_get xs found.0 ≡ Some found.1
  pub passes : p found.1 ≡ true

pub last-there : {X : Type 0} (p : X → Bool) (xs : List X) (before : ℕ)
    → IfSome (last_before p xs before) (IsThere p xs)
last-there p xs zero = tt
last-there {X} p xs (suc n) = by (slice_get xs n) refl (last-there p xs n)
  where
    by_if : (x : X) (b : Bool) → slice_get xs n ≡ Some x → p x ≡ b → IfSome (last_before p xs n) (IsThere p xs)
        → IfSome (found_if n x (last_before p xs n) b) (IsThere p xs)
    by_if x true is passes rest = record { there = is; passes = passes }
    by_if x false is passes rest = rest

    by : (o : Option X) → slice_get xs n ≡ o → IfSome (last_before p xs n) (IsThere p xs)
        → IfSome (found_at p n (last_before p xs n) o) (IsThere p xs)
    by None is rest = rest
    by (Some x) is rest = by_if x (p x) is refl rest

pub ruleset lasts = (last-down)
