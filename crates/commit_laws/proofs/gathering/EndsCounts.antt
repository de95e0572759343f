-- Where each of some members has one at most, nobody else has one, and there are as many as members, each of these has
-- one.
use Rattle.std.proofs.Common.{◌≡◌, ◌≤◌, ◌<◌, ◌+◌, ◌⊎◌, ◌==◌, ◌∙◌, ℕ, zero, suc, Bool, true, false, List, [], ◌∷◌}
use Rattle.std.proofs.Common.{eq-eqb, inl, inr, length, refl, sym, ap, arith}
use Rattle.std.proofs.lemmas.Bool.{eqb-true, true≢false}
use Rattle.std.specs.Prelude.{if◌then◌else◌}
use Rattle.run_theory.specs.Counts.{total}
use Rattle.run_theory.specs.Lists.{IsIn}
use Rattle.host_laws.proofs.hosts.Sums.{total_add, total_le, total_zero}
use Rattle.sig_core.specs.declared.member.Member.{Member}
use Rattle.request_laws.specs.Tokens.{total_of}
use Rattle.commit_laws.proofs.drive.Moments.{total_of_below}

-- the host is that of one of these members
pub record IsOfOne (host : Member → ℕ) (ms : List Member) (i : ℕ) : Type 0 where
  pub member : Member
  pub there : IsIn member ms
  pub at : i ≡ host member

-- one place among the hosts
unit_few : (n at c : ℕ) → total n (λ i. if at == i then c else 0) ≤ c
unit_few zero at c = omega arith
unit_few (suc n) at c = by (at == n) refl (unit_few n at c)
  where
    above : (m : ℕ) → m ≤ at → total m (λ i. if at == i then c else 0) ≡ 0
    above zero high = refl
    above (suc m) high = here (at == m) refl (above m (omega (arith, high)))
      where
        here : (b : Bool) → (at == m) ≡ b → total m (λ i. if at == i then c else 0) ≡ 0
            → (if b then c else 0) + total m (λ i. if at == i then c else 0) ≡ 0
        here true is rest = absurd (omega (arith, high, eqb-true at m is))
        here false is rest = omega (arith, rest)

    by : (b : Bool) → (at == n) ≡ b → total n (λ i. if at == i then c else 0) ≤ c
        → (if b then c else 0) + total n (λ i. if at == i then c else 0) ≤ c
    by true is rest = omega (arith, above n (omega (arith, eqb-true at n is)))
    by false is rest = omega (arith, rest)

-- a sum over hosts of which those of these members alone have some is no more than that over the members
pub hosts_few : (host : Member → ℕ) (ms : List Member) (n : ℕ) (f : ℕ → ℕ)
    → ((i : ℕ) → i < n → 1 ≤ f i → IsOfOne host ms i) → total n f ≤ total_of ms (λ m. f (host m))
hosts_few host [] n f own =
    omega (arith, total_le n f (λ i. 0) (λ i low. by i low (f i) refl), total_zero n (λ i. 0) (λ i. refl))
  where
    by : (i : ℕ) → i < n → (k : ℕ) → f i ≡ k → f i ≤ 0
    by i low zero is = omega (arith, is)
    by i low (suc k) is = let one = own i low (omega (arith, is)) in absurd one.there
hosts_few host (m ∷ ms) n f own =
    omega (
      arith,
      total_le n f (λ i. others i + (if host m == i then f (host m) else 0)) (λ i low. parts i (host m == i) refl),
      total_add n others (λ i. if host m == i then f (host m) else 0),
      unit_few n (host m) (f (host m)),
      hosts_few host ms n others left,
      total_of_below ms (λ one. others (host one)) (λ one. f (host one))
          (λ one there. less (host one) (host m == host one)),
    )
  where
    others : ℕ → ℕ
    others i = if host m == i then 0 else f i

    less : (i : ℕ) (b : Bool) → (if b then 0 else f i) ≤ f i
    less i true = omega arith
    less i false = omega arith

    parts : (i : ℕ) (b : Bool) → (host m == i) ≡ b → f i ≤ (if b then 0 else f i) + (if b then f (host m) else 0)
    parts i true is = omega (arith, ap f (eqb-true (host m) i is))
    parts i false is = omega arith

    left : (i : ℕ) → i < n → 1 ≤ others i → IsOfOne host ms i
    left i low some = by (host m == i) refl some
      where
        among : (host m == i) ≡ false → IsOfOne host (m ∷ ms) i → IsOfOne host ms i
        among off one = which one.there
          where
            which : (one.member ≡ m) ⊎ IsIn one.member ms → IsOfOne host ms i
            which (inl is) = absurd (true≢false (sym (eq-eqb (host m) i (sym (one.at ∙ ap host is))) ∙ off))
            which (inr there) = record { member = one.member; there = there; at = one.at }

        by : (b : Bool) → (host m == i) ≡ b → 1 ≤ (if b then 0 else f i) → IsOfOne host ms i
        by true is none = absurd (omega (arith, none))
        by false off some = among off (own i low some)

-- where each has one at most
module _ (f : Member → ℕ) where
  few : (ms : List Member) → ((m : Member) → IsIn m ms → f m ≤ 1) → total_of ms f ≤ length ms
  few [] once = omega arith
  few (m ∷ ms) once = omega (arith, once m (inl refl), few ms (λ x there. once x (inr there)))

  pub each_has : (ms : List Member) → ((m : Member) → IsIn m ms → f m ≤ 1) → length ms ≤ total_of ms f
      → (m : Member) → IsIn m ms → 1 ≤ f m
  each_has [] once enough m there = absurd there
  each_has (one ∷ ms) once enough m (inl is) =
      omega (arith, enough, few ms (λ x there. once x (inr there)), ap f is)
  each_has (one ∷ ms) once enough m (inr there) =
      each_has ms (λ x there. once x (inr there))
      (let first = once one (inl refl) in omega (arith, enough, first)) m there
