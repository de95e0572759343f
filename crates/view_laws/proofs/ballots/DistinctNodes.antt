-- Members with different nodes out of a range are no more than the range has nodes.
use Rattle.std.proofs.Common.{◌≡◌, ◌<◌, ◌≤◌, ◌+◌, ◌==◌, ℕ, zero, suc, Bool, true, false, not, if◌then◌else◌, List, []}
use Rattle.std.proofs.Common.{◌∷◌, ◌++◌, length, refl, sym, ap, ◌∙◌, inl, inr, zero-le, eqb-true, filter, arith}
use Rattle.std.proofs.lemmas.Bool.Decides.{nat_tests}
use Rattle.run_theory.specs.Lists.{Each, IsIn}
use Rattle.run_theory.proofs.Pasts.{each_before, each_in, each_map}
use Rattle.sig_core.specs.declared.member.Member.{Member}
use Rattle.view_laws.specs.Sets.{AreApart, IsApart}

-- members with different nodes of which two have one node are the same
pub apart_same : (members : List Member) → AreApart members → (one other : Member) → IsIn one members
    → IsIn other members
    → one.node ≡ other.node → one ≡ other
apart_same [] are one other i j same = absurd i
apart_same (member ∷ members) are one other (inl is) (inl like) same = is ∙ sym like
apart_same (member ∷ members) are one other (inl is) (inr j) same =
    absurd (each_in (IsApart member) other members are.1 j (ap (λ (m : Member). m.node) (sym is) ∙ same))
apart_same (member ∷ members) are one other (inr i) (inl like) same =
    absurd (each_in (IsApart member) one members are.1 i (ap (λ (m : Member). m.node) (sym like) ∙ sym same))
apart_same (member ∷ members) are one other (inr i) (inr j) same = apart_same members are.2 one other i j same

pub apart_front : (xs ys : List Member) → AreApart (xs ++ ys) → AreApart xs
apart_front [] ys are = tt
apart_front (x ∷ xs) ys are = (are.0, each_before (IsApart x) xs ys are.1, apart_front xs ys are.2)

-- each of them has a node
apart_some : (members : List Member) → AreApart members → Each (λ m. 1 ≤ m.node) members
apart_some [] are = tt
apart_some (member ∷ members) are = (are.0, apart_some members are.2)

pub some_node : (members : List Member) (one : Member) → AreApart members → IsIn one members → 1 ≤ one.node
some_node members one are i = each_in (λ m. 1 ≤ m.node) one members (apart_some members are) i

module _ (p : Member → Bool) where
  each_kept : (P : Member → Type 0) (x : Member) (xs : List Member) → (p x ≡ true → P x) → Each P xs
      → (b : Bool) → p x ≡ b → Each P (if b then x ∷ xs else xs)
  each_kept P x xs h hs true is = (h is, hs)
  each_kept P x xs h hs false is = hs

  -- what holds of each item, or follows from the test, holds of each that passes it
  pub each_filter : (P : Member → Type 0) (xs : List Member) → Each (λ x. p x ≡ true → P x) xs → Each P (filter p xs)
  each_filter P [] h = tt
  each_filter P (x ∷ xs) h = each_kept P x (filter p xs) h.0 (each_filter P xs h.1) (p x) refl

  apart_kept : (x : Member) (xs : List Member) → 1 ≤ x.node → Each (IsApart x) xs → AreApart xs
      → (b : Bool) → AreApart (if b then x ∷ xs else xs)
  apart_kept x xs some apart are true = (some, apart, are)
  apart_kept x xs some apart are false = are

  pub apart_filter : (xs : List Member) → AreApart xs → AreApart (filter p xs)
  apart_filter [] are = tt
  apart_filter (x ∷ xs) are =
      apart_kept x (filter p xs) are.0 (each_filter (IsApart x) xs (each_map _ _ xs (λ y h k. h) are.1))
      (apart_filter xs are.2) (p x)

-- without those of one node a list of members with different nodes is shorter by one at most
abbrev is_elsewhere : ℕ → Member → Bool
is_elsewhere node member = not (member.node == node)

all_elsewhere : (node : ℕ) (x : Member) → x.node ≡ node → (xs : List Member) → Each (IsApart x) xs
    → filter (is_elsewhere node) xs ≡ xs
all_elsewhere node x is [] apart = refl
all_elsewhere node x is (y ∷ ys) apart =
    by (y.node == node) refl (all_elsewhere node x is ys apart.1)
  where
    by : (b : Bool) → (y.node == node) ≡ b → filter (is_elsewhere node) ys ≡ ys
        → filter (is_elsewhere node) (y ∷ ys) ≡ y ∷ ys
    by true e rest = absurd (apart.0 (is ∙ sym (eqb-true y.node node e)))
    by false e rest = rw e (ap (λ zs. y ∷ zs) rest)

elsewhere_shorter : (node : ℕ) (xs : List Member) → AreApart xs
    → length xs ≤ suc (length (filter (is_elsewhere node) xs))
elsewhere_shorter node [] are = zero-le
elsewhere_shorter node (x ∷ xs) are =
    by (x.node == node) refl (elsewhere_shorter node xs are.2)
  where
    by : (b : Bool) → (x.node == node) ≡ b → length xs ≤ suc (length (filter (is_elsewhere node) xs))
        → length (x ∷ xs) ≤ suc (length (filter (is_elsewhere node) (x ∷ xs)))
    by true e rest = rw e (rw (all_elsewhere node x (eqb-true x.node node e) xs are.1) (omega arith))
    by false e rest = rw e (omega (arith, rest))

-- the node is one of so many from this one on
abbrev pub IsNear : ℕ → ℕ → Member → Type 0
IsNear low many member = (low ≤ member.node) × (member.node < low + many)

nearer : (low many : ℕ) (x : Member) → IsNear low (suc many) x → is_elsewhere (low + many) x ≡ true → IsNear low many x
nearer low many x h is = (h.0, grind (arith, nat_tests, h.1, is))

pub few_near : (low many : ℕ) (xs : List Member) → AreApart xs → Each (IsNear low many) xs → length xs ≤ many
few_near low zero [] are near = zero-le
few_near low zero (x ∷ xs) are near = absurd (omega (arith, near.0))
few_near low (suc many) xs are near =
    let left : List Member = filter (is_elsewhere (low + many)) xs in
    let near_left : Each (IsNear low many) left =
    each_filter (is_elsewhere (low + many)) (IsNear low many) xs (each_map _ _ xs (nearer low many) near) in
    let fewer : length left ≤ many =
    few_near low many left (apart_filter (is_elsewhere (low + many)) xs are) near_left in
    omega (arith, fewer, elsewhere_shorter (low + many) xs are)
