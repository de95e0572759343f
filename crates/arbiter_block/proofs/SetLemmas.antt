-- What the tests of members and sets tell.
use Rattle.std.proofs.Common.{◌≡◌, Bool, true, false, not, cond, ◌||◌, nat_eq, List, [], ◌∷◌, refl}
use Rattle.std.proofs.lemmas.Bool.{and_parts, and_from, eqb-true, eq-eqb, false≢true}
use Rattle.std.proofs.lemmas.List.Elements.{All-nil, All-cons}
use Rattle.std.proofs.lemmas.Map.Views.{Contains-from_any}
use Rattle.std.specs.Cmp.Lexicographic.{pointwise}
use Rattle.std.specs.List.{All, Contains, list_all}
use Rattle.std.specs.Prelude.{Option}
use Rattle.sig_core.specs.declared.member.Member.{Member}
use Rattle.arbiter_block.specs.Sets.{is_among, is_joining, is_same_set, joins_or_is_among, lie_in, same_member}
use Rattle.arbiter_block.specs.Sets.{without_joining}

-- equal members are one
same_member-is : (a b : Member) → same_member a b ≡ true → a ≡ b
same_member-is a b e =
    let parts = and_parts (nat_eq a.node b.node) (nat_eq a.start b.start) e in
    λ i. record { node = eqb-true a.node b.node parts.0 i; start = eqb-true a.start b.start parts.1 i }

-- a member is itself
same_member-self : (a : Member) → same_member a a ≡ true
same_member-self a = and_from _ _ (eq-eqb a.node a.node refl) (eq-eqb a.start a.start refl)

-- equal sets are one
pointwise-is : (xs ys : List Member) → pointwise same_member xs ys ≡ true → xs ≡ ys
pointwise-is [] [] e = refl
pointwise-is [] (y ∷ ys) e = absurd (false≢true e)
pointwise-is (x ∷ xs) [] e = absurd (false≢true e)
pointwise-is (x ∷ xs) (y ∷ ys) e =
    let parts = and_parts (same_member x y) (pointwise same_member xs ys) e in
    let first = same_member-is x y parts.0 in
    let others = pointwise-is xs ys parts.1 in
    λ i. first i ∷ others i

pointwise-self : (xs : List Member) → pointwise same_member xs xs ≡ true
pointwise-self [] = refl
pointwise-self (x ∷ xs) = and_from _ _ (same_member-self x) (pointwise-self xs)

pub same_set-is : (xs ys : List Member) → is_same_set xs ys ≡ true → xs ≡ ys
unfolding is_same_set
same_set-is xs ys e = pointwise-is xs ys e

-- a set is itself
pub same_set-self : (xs : List Member) → is_same_set xs xs ≡ true
unfolding is_same_set
same_set-self xs = pointwise-self xs

others_lie : (set : List Member) (joining : Option Member) (members : List Member)
    → list_all (joins_or_is_among set joining) members ≡ true → All (Contains set) (without_joining joining members)
others_lie set joining [] e = All-nil (Contains set)
others_lie set joining (x ∷ xs) e =
    let parts = and_parts (joins_or_is_among set joining x) (list_all (joins_or_is_among set joining) xs) e in
    at (is_joining joining x) parts.0 (others_lie set joining xs parts.1)
  where
    at : (joins : Bool) → (joins || is_among set x) ≡ true → All (Contains set) (without_joining joining xs)
        → All (Contains set) (cond (not joins) (x ∷ without_joining joining xs) (without_joining joining xs))
    at true e rest = rest
    at false e rest = All-cons (Contains set) x _ (Contains-from_any same_member-is x set e) rest

-- members that lie in a set: each of them, but for the one that joins, is among it
pub lying : (set members : List Member) (joining : Option Member)
    → lie_in set members joining ≡ true → All (Contains set) (without_joining joining members)
unfolding lie_in
lying set members joining e = others_lie set joining members e
