-- Sums over hosts.
use Rattle.std.proofs.Common.{◌≡◌, ◌≢◌, ◌⊎◌, ℕ, zero, suc, ◌+◌, ◌<◌, ◌≤◌, Bool, true, false, refl, ap, arith, inl, inr}
use Rattle.std.specs.Prelude.{◌==◌, ◌&&◌}
use Rattle.std.proofs.lemmas.Bool.{cases_eq, eqb-true}
use Rattle.std.proofs.lemmas.Bool.Decides.{nat_tests}
use Rattle.run_theory.specs.Counts.{one_if, total}

-- a test counts one at most, and two together no more than the first (no more than the second: `and_few`)
pub one_most : (b : Bool) → one_if b ≤ 1
one_most true = omega arith
one_most false = omega arith

pub first_few : (a b : Bool) → one_if (a && b) ≤ one_if a
first_few true true = omega arith
first_few true false = omega arith
first_few false b = omega arith

pub total_same : (n : ℕ) (f g : ℕ → ℕ) → ((k : ℕ) → k < n → f k ≡ g k) → total n f ≡ total n g
total_same zero f g same = refl
total_same (suc n) f g same =
    omega (arith, same n (omega arith), total_same n f g (λ k low. same k (omega (arith, low))))

pub total_le : (n : ℕ) (f g : ℕ → ℕ) → ((k : ℕ) → k < n → f k ≤ g k) → total n f ≤ total n g
total_le zero f g less = omega arith
total_le (suc n) f g less = omega (arith, less n (omega arith), total_le n f g (λ k low. less k (omega (arith, low))))

pub total_add : (n : ℕ) (f g : ℕ → ℕ) → total n (λ k. f k + g k) ≡ total n f + total n g
total_add zero f g = refl
total_add (suc n) f g = omega (arith, total_add n f g)

pub total_zero : (n : ℕ) (f : ℕ → ℕ) → ((k : ℕ) → f k ≡ 0) → total n f ≡ 0
total_zero zero f none = refl
total_zero (suc n) f none = omega (arith, none n, total_zero n f none)

-- one of them changes
pub total_one : (n : ℕ) (f g : ℕ → ℕ) (h : ℕ) → h < n → ((k : ℕ) → k ≢ h → g k ≡ f k)
    → total n g + f h ≡ total n f + g h
total_one zero f g h low same = absurd (omega (arith, low))
total_one (suc n) f g h low same = go (cases_eq n h) (total_one n f g h)
  where
    go : (n ≡ h) ⊎ (n ≢ h) → (h < n → ((k : ℕ) → k ≢ h → g k ≡ f k) → total n g + f h ≡ total n f + g h)
        → g n + total n g + f h ≡ f n + total n f + g h
    go (inl is) next =
        let rest : total n g ≡ total n f =
        total_same n g f (λ k under. same k (λ e. absurd (omega (arith, under, e, is)))) in
        omega (arith, rest, ap f is, ap g is)
    go (inr differs) next = omega (arith, same n differs, next (omega (arith, low, differs)) same)

-- some of them are counted
pub record IsSome (n : ℕ) (f : ℕ → ℕ) : Type 0 where
  pub at : ℕ
  pub low : at < n
  pub some : 1 ≤ f at

pub total_some : (n : ℕ) (f : ℕ → ℕ) → 1 ≤ total n f → IsSome n f
total_some zero f some = absurd (omega (arith, some))
total_some (suc n) f some = go (f n) refl (total_some n f)
  where
    go : (m : ℕ) → f n ≡ m → (1 ≤ total n f → IsSome n f) → IsSome (suc n) f
    go zero e rest = let r = rest (omega (arith, some, e)) in record {
      at = r.at;
      low = omega (arith, r.low);
      some = r.some;
    }
    go (suc m) e rest = record { at = n; low = omega arith; some = omega (arith, e) }

-- one place among them
pub unit_above : (n at : ℕ) (c : Bool) → n ≤ at → total n (λ j. one_if ((at == j) && c)) ≡ 0
unit_above zero at c high = refl
unit_above (suc n) at c high = go (at == n) refl (unit_above n at c (omega (arith, high)))
  where
    go : (b : Bool) → (at == n) ≡ b → total n (λ j. one_if ((at == j) && c)) ≡ 0
        → one_if (b && c) + total n (λ j. one_if ((at == j) && c)) ≡ 0
    go true e rest = absurd (omega (arith, high, eqb-true at n e))
    go false e rest = omega (arith, rest)

pub unit_below : (n at : ℕ) (c : Bool) → at < n → total n (λ j. one_if ((at == j) && c)) ≡ one_if c
unit_below zero at c low = absurd (omega (arith, low))
unit_below (suc n) at c low = go (at == n) refl (unit_below n at c)
  where
    go : (b : Bool) → (at == n) ≡ b → (at < n → total n (λ j. one_if ((at == j) && c)) ≡ one_if c)
        → one_if (b && c) + total n (λ j. one_if ((at == j) && c)) ≡ one_if c
    go true e rest = omega (arith, unit_above n at c (omega (arith, eqb-true at n e)))
    go false e rest =
        let differs : at ≢ n = λ same. absurd (grind (arith, nat_tests, e, same)) in
        omega (arith, rest (omega (arith, low, differs)))

pub unit_few : (n at : ℕ) (c : Bool) → total n (λ j. one_if ((at == j) && c)) ≤ one_if c
unit_few zero at c = omega arith
unit_few (suc n) at c = go (at == n) refl (unit_few n at c)
  where
    go : (b : Bool) → (at == n) ≡ b → total n (λ j. one_if ((at == j) && c)) ≤ one_if c
        → one_if (b && c) + total n (λ j. one_if ((at == j) && c)) ≤ one_if c
    go true e rest = omega (arith, unit_above n at c (omega (arith, eqb-true at n e)))
    go false e rest = omega (arith, rest)

-- one of them is no more than all
pub total_at : (n : ℕ) (f : ℕ → ℕ) (k : ℕ) → k < n → f k ≤ total n f
total_at zero f k low = absurd (omega (arith, low))
total_at (suc n) f k low = go (cases_eq n k) (total_at n f k)
  where
    go : (n ≡ k) ⊎ (n ≢ k) → (k < n → f k ≤ total n f) → f k ≤ f n + total n f
    go (inl is) rest = omega (arith, ap f is)
    go (inr differs) rest = omega (arith, rest (omega (arith, low, differs)))

-- one of them is less
pub total_less : (n : ℕ) (f g : ℕ → ℕ) (k : ℕ) → k < n → ((j : ℕ) → j < n → f j ≤ g j) → f k + 1 ≤ g k
    → total n f + 1 ≤ total n g
total_less zero f g k low less one = absurd (omega (arith, low))
total_less (suc n) f g k low less one = go (cases_eq n k) (total_less n f g k)
  where
    go : (n ≡ k) ⊎ (n ≢ k) → (k < n → ((j : ℕ) → j < n → f j ≤ g j) → f k + 1 ≤ g k → total n f + 1 ≤ total n g)
        → f n + total n f + 1 ≤ g n + total n g
    go (inl is) rest = omega (arith, ap f is, ap g is, one, total_le n f g (λ j under. less j (omega (arith, under))))
    go (inr differs) rest = omega (
      arith,
      less n (omega arith),
      rest (omega (arith, low, differs))
          (λ j under. less j (omega (arith, under))) one,
    )
