-- Sets as the rows of a membership test and change them: what the tests tell, and of what a changed set is made.
use Rattle.std.proofs.Common.{◌≡◌, ◌||◌, ◌⊎◌, ℕ, zero, suc, Bool, true, false, cond, nat_eq, List, [], ◌∷◌, ◌++◌}
use Rattle.std.proofs.Common.{filter, take, refl, ap, sym, subst, ◌∙◌, inl, inr}
use Rattle.std.proofs.lemmas.Bool.{and_from, and_parts, eq-eqb, eqb-true, false≢true}
use Rattle.std.specs.Cmp.Lexicographic.{pointwise}
use Rattle.std.specs.List.{list_all, list_any}
use Rattle.run_theory.specs.Lists.{Each, IsIn}
use Rattle.run_theory.proofs.Pasts.{each_from}
use Rattle.sig_core.specs.declared.member.Member.{Member}
use Rattle.sig_core.specs.declared.view.View.{View}
use Rattle.qmgr_block.specs.Sets as sets
use Rattle.qmgr_block.specs.Sets.{are_same_parts, is_among, is_part, is_same_set, lie_in, promoted_view, same_member}
use Rattle.qmgr_block.specs.Sets.{with_member, without}
use Rattle.view_laws.specs.Sets.{IsMadeOf, IsPart, promotes}
use Rattle.view_laws.proofs.ballots.Found.{found}

-- equal members are one
pub same_is : (one other : Member) → same_member one other ≡ true → one ≡ other
same_is one other e =
    let parts = and_parts (nat_eq one.node other.node) (nat_eq one.start other.start) e in
    λ i. record { node = eqb-true one.node other.node parts.0 i; start = eqb-true one.start other.start parts.1 i }

pub same_self : (member : Member) → same_member member member ≡ true
same_self member = and_from _ _ (eq-eqb member.node member.node refl) (eq-eqb member.start member.start refl)

-- equal sets are one
pub set_is : (xs ys : List Member) → pointwise same_member xs ys ≡ true → xs ≡ ys
set_is [] [] e = refl
set_is [] (y ∷ ys) e = absurd (false≢true e)
set_is (x ∷ xs) [] e = absurd (false≢true e)
set_is (x ∷ xs) (y ∷ ys) e =
    let parts = and_parts (same_member x y) (pointwise same_member xs ys) e in
    let first = same_is x y parts.0 in
    let others = set_is xs ys parts.1 in
    λ i. first i ∷ others i

pub set_self : (xs : List Member) → pointwise same_member xs xs ≡ true
set_self [] = refl
set_self (x ∷ xs) = and_from _ _ (same_self x) (set_self xs)

-- who is among members is one of them
pub any_is : (set : List Member) (member : Member) → list_any (same_member member) set ≡ true → IsIn member set
any_is set member e =
    let one = found (same_member member) set e in
    subst (λ (other : Member). IsIn other set) (sym (same_is member one.member one.passes)) one.there

pub among_is : (set : List Member) (member : Member) → is_among set member ≡ true → IsIn member set
unfolding is_among
among_is set member e = any_is set member e

-- an or with what is true
pub or_true : (b : Bool) → (b || true) ≡ true
or_true true = refl
or_true false = refl

-- and the other way round
pub any_in : (set : List Member) (member : Member) → IsIn member set → list_any (same_member member) set ≡ true
any_in [] member is = absurd is
any_in (x ∷ set) member (inl same) =
    ap (λ (b : Bool). b || list_any (same_member member) set)
    (subst (λ (y : Member). same_member member y ≡ true) same (same_self member))
any_in (x ∷ set) member (inr is) =
    ap (λ (b : Bool). same_member member x || b) (any_in set member is) ∙ or_true (same_member member x)

pub among_in : (set : List Member) (member : Member) → IsIn member set → is_among set member ≡ true
unfolding is_among
among_in set member is = any_in set member is

all_lie : (set members : List Member) → list_all (is_among set) members ≡ true
    → Each (λ member. IsIn member set) members
all_lie set [] e = tt
all_lie set (member ∷ members) e =
    let parts = and_parts (is_among set member) (list_all (is_among set) members) e in
    (among_is set member parts.0, all_lie set members parts.1)

pub lie_is : (set members : List Member) → lie_in set members ≡ true → Each (λ member. IsIn member set) members
unfolding lie_in
lie_is set members e = all_lie set members e

-- what passes a test
filter_if : {X : Type 0} (p : X → Bool) (x y : X) (rest xs : List X) (b : Bool) → p x ≡ b
    → IsIn y (cond b (x ∷ rest) rest) → (IsIn y rest → IsIn y xs × (p y ≡ true)) → IsIn y (x ∷ xs) × (p y ≡ true)
filter_if p x y rest xs true e (inl same) later = (inl same, subst (λ z. p z ≡ true) (sym same) e)
filter_if p x y rest xs true e (inr is) later = let l = later is in (inr l.0, l.1)
filter_if p x y rest xs false e is later = let l = later is in (inr l.0, l.1)

pub filter_in : {X : Type 0} (p : X → Bool) (xs : List X) (y : X) → IsIn y (filter p xs) → IsIn y xs × (p y ≡ true)
filter_in p [] y is = absurd is
filter_in p (x ∷ xs) y is = filter_if p x y (filter p xs) xs (p x) refl is (filter_in p xs y)

pub without_in : (members others : List Member) (member : Member) → IsIn member (without members others)
    → IsIn member members
unfolding without
without_in members others member is = (filter_in _ members member is).0

-- a front, and a list with one more
pub take_in : {X : Type 0} (n : ℕ) (xs : List X) (y : X) → IsIn y (take n xs) → IsIn y xs
take_in zero xs y is = absurd is
take_in (suc n) [] y is = absurd is
take_in (suc n) (x ∷ xs) y (inl same) = inl same
take_in (suc n) (x ∷ xs) y (inr is) = inr (take_in n xs y is)

pub snoc_in : {X : Type 0} (xs : List X) (x y : X) → IsIn y (xs ++ x ∷ []) → IsIn y xs ⊎ (y ≡ x)
snoc_in [] x y (inl same) = inr same
snoc_in [] x y (inr is) = absurd is
snoc_in (z ∷ xs) x y (inl same) = inl (inl same)
snoc_in (z ∷ xs) x y (inr is) = by (snoc_in xs x y is)
  where
    by : IsIn y xs ⊎ (y ≡ x) → IsIn y (z ∷ xs) ⊎ (y ≡ x)
    by (inl later) = inl (inr later)
    by (inr same) = inr same

pub with_in : (members : List Member) (member one : Member) → IsIn one (with_member members member)
    → IsIn one members ⊎ (one ≡ member)
with_in members member one is = snoc_in members member one (take_in 8 (members ++ member ∷ []) one is)

-- how a set is made of another
pub part_is : (whole part : View) → is_part whole part ≡ true → IsPart whole part
part_is whole part e =
    let parts = and_parts (lie_in whole.full part.full) (lie_in whole.starting part.starting) e in
    record {
      allowed = tt;
      full = each_inl whole.full part.full (lie_is whole.full part.full parts.0);
      starting = each_inl whole.starting part.starting (lie_is whole.starting part.starting parts.1);
    }
  where
    each_inl : (set members : List Member) → Each (λ member. IsIn member set) members
        → Each (λ member. IsIn member set ⊎ ⊥) members
    each_inl set [] all = tt
    each_inl set (member ∷ members) all = (inl all.0, each_inl set members all.1)

-- equal parts are the same lists
pub record HasParts (set : View) (full starting : List Member) : Type 0 where
  pub full_is : set.full ≡ full
  pub starting_is : set.starting ≡ starting

pub parts_are : (one other : View) → are_same_parts one other ≡ true → HasParts one other.full other.starting
unfolding is_same_set
parts_are one other e =
    let parts = and_parts (is_same_set one.full other.full) (is_same_set one.starting other.starting) e in
    record {
      full_is = set_is one.full other.full parts.0;
      starting_is = set_is one.starting other.starting parts.1;
    }

pub promoted_parts : (base set : View) (member : Member) → sets.promotes base set member ≡ true
    → IsIn member base.starting
    × HasParts set (with_member base.full member) (without base.starting (member ∷ []))
unfolding promoted_view
promoted_parts base set member e =
    let parts =
    and_parts (is_among base.starting member) (are_same_parts set (promoted_view base set.number member)) e in
    (among_is base.starting member parts.0, parts_are set (promoted_view base set.number member) parts.1)

-- a promotion is made by one member that becomes full
pub promoted_made : (base set : View) (member : Member) → sets.promotes base set member ≡ true
    → IsMadeOf base (promotes member) set
promoted_made base set member e =
    let parts = promoted_parts base set member e in
    record {
      allowed = parts.0;
      full =
          each_from _ set.full
          (λ one is. with_in base.full member one (subst (IsIn one) parts.1.full_is is));
      starting =
          each_from _ set.starting
          (λ one is. inl (without_in base.starting (member ∷ []) one (subst (IsIn one) parts.1.starting_is is)));
    }

-- a list of no more than n holds one more, or the one more isn't in its front
pub cut : (n : ℕ) (xs : List Member) (y : Member)
    → (take n (xs ++ y ∷ []) ≡ xs ++ y ∷ []) ⊎ ((z : Member) → IsIn z (take n (xs ++ y ∷ [])) → IsIn z xs)
cut zero xs y = inr (λ z is. absurd is)
cut (suc n) [] y = inl (ap (λ zs. y ∷ zs) (none n))
  where
    none : (n : ℕ) → take {A = Member} n [] ≡ []
    none zero = refl
    none (suc n) = refl
cut (suc n) (x ∷ xs) y = by (cut n xs y)
  where
    by : (take n (xs ++ y ∷ []) ≡ xs ++ y ∷ []) ⊎ ((z : Member) → IsIn z (take n (xs ++ y ∷ [])) → IsIn z xs)
        → (x ∷ take n (xs ++ y ∷ []) ≡ x ∷ (xs ++ y ∷ []))
        ⊎ ((z : Member) → IsIn z (x ∷ take n (xs ++ y ∷ [])) → IsIn z (x ∷ xs))
    by (inl same) = inl (ap (λ zs. x ∷ zs) same)
    by (inr less) = inr (λ z. at z)
      where
        at : (z : Member) → IsIn z (x ∷ take n (xs ++ y ∷ [])) → IsIn z (x ∷ xs)
        at z (inl same) = inl same
        at z (inr is) = inr (less z is)
