-- Places that are gone through around a circle, from any one on.
use Rattle.std.proofs.Common.{◌≡◌, ◌≤◌, ◌<◌, ◌⊎◌, inl, inr, ℕ, ◌+◌, ◌-◌, ◌*◌, ◌/◌, ◌%◌, ap, ◌∙◌, arith}
use Rattle.std.proofs.lemmas.Bool.{cases_lt}
use Rattle.std.proofs.lemmas.Nat.{div-add-mod', mod-mul-add, mod_below}

-- before the end of the circle
around-before : (size from at : ℕ) → at + from % size < size → (at + from) % size ≡ at + from % size
around-before size from at low =
    let is : at + from ≡ from / size * size + (at + from % size) = omega (arith, div-add-mod' from size) in
    ap (λ n. n % size) is ∙ mod-mul-add (from / size) size (at + from % size) low

-- past its end
around-past : (size from at : ℕ) → at < size → size ≤ at + from % size → (at + from) % size ≡ at + from % size - size
around-past size from at inside past =
    let turned = mod_below from size (omega (arith, inside)) in
    let is : at + from ≡ (from / size + 1) * size + (at + from % size - size) =
    omega (arith, div-add-mod' from size, past) in
    ap (λ n. n % size) is
    ∙ mod-mul-add (from / size + 1) size (at + from % size - size) (omega (arith, turned, inside, past))

-- two steps that come to one place are one
pub around_apart : (size from one other : ℕ) → one < size → other < size
    → (one + from) % size ≡ (other + from) % size → one ≡ other
around_apart size from one other one_low other_low same =
    by (cases_lt (one + from % size) size) (cases_lt (other + from % size) size)
  where
    turned : from % size < size
    turned = mod_below from size (omega (arith, one_low))

    by : (one + from % size < size) ⊎ (size ≤ one + from % size)
        → (other + from % size < size) ⊎ (size ≤ other + from % size) → one ≡ other
    by (inl a) (inl b) = omega (arith, same, around-before size from one a, around-before size from other b)
    by (inl a) (inr b) =
        omega (arith, same, turned, other_low, around-before size from one a, around-past size from other other_low b)
    by (inr a) (inl b) =
        omega (arith, same, turned, one_low, around-past size from one one_low a, around-before size from other b)
    by (inr a) (inr b) =
        omega (arith, same, a, b, around-past size from one one_low a, around-past size from other other_low b)

-- a step that comes to a place
pub record Reaches (size from place : ℕ) : Type 0 where
  pub step : ℕ
  pub inside : step < size
  pub comes : (step + from) % size ≡ place

-- each place is come to
pub around_all : (size from place : ℕ) → place < size → Reaches size from place
around_all size from place low = by (cases_lt place (from % size))
  where
    turned : from % size < size
    turned = mod_below from size (omega (arith, low))

    by : (place < from % size) ⊎ (from % size ≤ place) → Reaches size from place
    by (inl a) =
        let step = place + size - from % size in
        let inside : step < size = omega (arith, a, turned) in
        let past : size ≤ step + from % size = omega (arith, turned) in
        record { step = step; inside = inside; comes = omega (arith, turned, around-past size from step inside past) }
    by (inr a) =
        let step = place - from % size in
        let before : step + from % size < size = omega (arith, a, low) in
        let comes : (step + from) % size ≡ place = omega (arith, a, around-before size from step before) in
        record { step = step; inside = omega (arith, low); comes = comes }
