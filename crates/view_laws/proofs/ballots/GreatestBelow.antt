-- Of the sets with a property one has the greatest number below a bound, or the least above one. It isn't computed:
-- these serve where a contradiction is looked for.
use Rattle.std.proofs.Common.{◌<◌, ◌≤◌, ◌+◌, ℕ, zero, suc, le_refl, arith}
use Rattle.sig_core.specs.declared.view.View.{View}

-- no set with the property has a number between
abbrev pub NoneBetween : (View → Type 0) → ℕ → ℕ → Type 0
NoneBetween P low high = (set : View) → P set → low < set.number → set.number < high → ⊥

module _ (P : View → Type 0) where
  greatest_by : (high : ℕ) → ((set : View) → P set → set.number < high → NoneBetween P set.number high → ⊥)
      → (left : ℕ) (set : View) → P set → set.number < high → high ≤ set.number + left → ⊥
  greatest_by high none zero set is below near = omega (arith, below, near)
  greatest_by high none (suc left) set is below near =
      none set is below (λ other has above under. greatest_by high none left other has under
      (omega (arith, near, above)))

  -- the greatest below
  pub greatest : (high : ℕ) → ((set : View) → P set → set.number < high → NoneBetween P set.number high → ⊥)
      → (set : View) → P set → set.number < high → ⊥
  greatest high none set is below = greatest_by high none high set is below (omega arith)

  least_by : (low high : ℕ)
      → ((set : View) → P set → low < set.number → set.number < high → NoneBetween P low set.number → ⊥)
      → (left : ℕ) (set : View) → P set → low < set.number → set.number < high → set.number ≤ left → ⊥
  least_by low high none zero set is above below near = omega (arith, above, near)
  least_by low high none (suc left) set is above below near =
      none set is above below
      (λ other has over under.
      least_by low high none left other has over (omega (arith, below, under)) (omega (arith, near, under)))

  -- the least above
  pub least : (low high : ℕ)
      → ((set : View) → P set → low < set.number → set.number < high → NoneBetween P low set.number → ⊥)
      → NoneBetween P low high
  least low high none set is above below = least_by low high none set.number set is above below (le_refl set.number)
