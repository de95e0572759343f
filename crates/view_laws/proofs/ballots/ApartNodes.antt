-- Members of which no two are of one node.
use Rattle.std.proofs.Common.{◌≡◌, ◌≤◌, ◌⊎◌, ℕ, false, List, [], ◌∷◌, ◌++◌, length, sym, subst, ◌∙◌, arith, inl, inr}
use Rattle.std.proofs.lemmas.Bool.{eq-eqb, or_parts, true≢false}
use Rattle.std.proofs.lemmas.List.{take_all}
use Rattle.std.specs.List.{list_any}
use Rattle.run_theory.specs.Lists.{Each, IsIn}
use Rattle.run_theory.proofs.Pasts.{each_after, each_append, each_before, each_from, each_in}
use Rattle.sig_core.specs.declared.member.Member.{Member}
use Rattle.sig_core.specs.declared.view.View.{View}
use Rattle.qmgr_block.specs.Join.{has_node, is_of_node}
use Rattle.qmgr_block.specs.Sets.{members_of}
use Rattle.view_laws.specs.Events.{IsSet}
use Rattle.view_laws.specs.Sets.{AreApart, IsApart, all_of}
use Rattle.view_laws.proofs.ballots.DistinctNodes.{IsNear, few_near}

-- each member is of such a node, at the most
abbrev pub AreUpTo : ℕ → List Member → Type 0
AreUpTo n members = Each (λ member. member.node ≤ n) members

-- two lists that are apart, and apart from each other
pub record ArePartsApart (xs ys : List Member) : Type 0 where
  pub one : AreApart xs
  pub other : AreApart ys
  pub both : Each (λ x. Each (IsApart x) ys) xs

pub parts_apart : (xs ys : List Member) → AreApart (xs ++ ys) → ArePartsApart xs ys
parts_apart [] ys apart = record { one = tt; other = apart; both = tt }
parts_apart (x ∷ xs) ys apart =
    let later = parts_apart xs ys apart.2 in
    record {
      one = (apart.0, each_before (IsApart x) xs ys apart.1, later.one);
      other = later.other;
      both = (each_after (IsApart x) xs ys apart.1, later.both);
    }

pub join_apart : (xs ys : List Member) → ArePartsApart xs ys → AreApart (xs ++ ys)
join_apart [] ys parts = parts.other
join_apart (x ∷ xs) ys parts = (
  parts.one.0,
  each_append (IsApart x) xs ys parts.one.1 parts.both.0,
  join_apart xs ys (record { one = parts.one.2; other = parts.other; both = parts.both.1 }),
)

-- who is apart from another, that one is apart from it
apart_back : (one other : Member) → IsApart one other → IsApart other one
apart_back one other apart e = apart (sym e)

-- two members of such a list are one, or apart
pub two_apart : (xs : List Member) (y z : Member) → AreApart xs → IsIn y xs → IsIn z xs → (y ≡ z) ⊎ IsApart y z
two_apart [] y z apart is other = absurd is
two_apart (x ∷ xs) y z apart (inl same) (inl also) = inl (same ∙ sym also)
two_apart (x ∷ xs) y z apart (inl same) (inr other) =
    inr (subst (λ (w : Member). IsApart w z) (sym same) (each_in (IsApart x) z xs apart.1 other))
two_apart (x ∷ xs) y z apart (inr is) (inl also) =
    inr (subst (IsApart y) (sym also) (apart_back x y (each_in (IsApart x) y xs apart.1 is)))
two_apart (x ∷ xs) y z apart (inr is) (inr other) = two_apart xs y z apart.2 is other

-- one member more
pub snoc_apart : (xs : List Member) (y : Member) → AreApart xs → 1 ≤ y.node → Each (IsApart y) xs
    → AreApart (xs ++ y ∷ [])
snoc_apart xs y apart some away =
    join_apart xs (y ∷ [])
    (record {
      one = apart;
      other = (some, tt, tt);
      both = each_from _ xs (λ x is. (apart_back y x (each_in (IsApart y) x xs away is), tt));
    })

-- members of the nodes 1 to n that are apart are n at the most
near : (n : ℕ) (xs : List Member) → AreApart xs → AreUpTo n xs → Each (IsNear 1 n) xs
near n [] apart low = tt
near n (x ∷ xs) apart low = ((apart.0, omega (arith, low.0)), near n xs apart.2 low.1)

pub few : (n : ℕ) (xs : List Member) → AreApart xs → AreUpTo n xs → length xs ≤ n
few n xs apart low = few_near 1 n xs apart (near n xs apart low)

-- so a set has eight members at the most, and none is left out
pub all_members : (set : View) → IsSet set → members_of set ≡ all_of set
unfolding members_of
all_members set is = take_all 8 (all_of set) (few 8 (all_of set) is.apart is.nodes)

-- who has a node where no member is, is apart from all
pub none_apart : (xs : List Member) (y : Member) → list_any (is_of_node y) xs ≡ false → Each (IsApart y) xs
none_apart [] y e = tt
none_apart (x ∷ xs) y e =
    let parts = or_parts (is_of_node y x) (list_any (is_of_node y) xs) e in
    ((λ same. true≢false (sym (eq-eqb y.node x.node same) ∙ parts.0)), none_apart xs y parts.1)

pub no_node_apart : (xs : List Member) (y : Member) → has_node xs y ≡ false → Each (IsApart y) xs
unfolding has_node
no_node_apart xs y e = none_apart xs y e
