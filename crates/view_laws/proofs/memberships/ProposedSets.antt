-- The sets that a membership proposes: each is rightly made of the installed view, and its own.
use Rattle.std.proofs.Common.{◌≡◌, ◌≤◌, ◌⊎◌, ℕ, Bool, true, false, cond, not, List, [], ◌∷◌, ◌++◌, filter, length, refl}
use Rattle.std.proofs.Common.{ap, sym, subst, ◌∙◌, arith, inl, inr, append_assoc, length-append}
use Rattle.std.proofs.lemmas.Bool.{and_from, not-true, false≢true, true≢false}
use Rattle.std.proofs.lemmas.List.Elements.{filter-append}
use Rattle.std.proofs.lemmas.List.{take_all}
use Rattle.std.specs.Prelude.{if◌then◌else◌, Option, None, Some, position}
use Rattle.run_theory.specs.Lists.{Each, IsIn}
use Rattle.run_theory.proofs.Pasts.{each_after, each_append, each_before, each_from, each_in, in_append}
use Rattle.sig_core.specs.declared.member.Member.{Member}
use Rattle.sig_core.specs.declared.view.View.{View}
use Rattle.sig_core.specs.Firsts.{first}
use Rattle.sig_core.proofs.Firsts.{first-get, get_by}
use Rattle.qmgr_block.specs.Join.{has_node}
use Rattle.qmgr_block.specs.Sets as sets
use Rattle.qmgr_block.specs.Sets.{is_among, is_same_set, members_of, promoted_view, with_member, without}
use Rattle.qmgr_block.specs.Suspects.{is_trusted, member_at, presides_by}
use Rattle.view_laws.specs.Events.{IsSet}
use Rattle.view_laws.specs.Kept.{IsOwn, oldest}
use Rattle.view_laws.specs.Members.{change_by, promotion_among}
use Rattle.view_laws.specs.Sets.{AreApart, Change, IsApart, IsMadeOf, all_of, joins, promotes, shrinks}
use Rattle.view_laws.proofs.ballots.ApartNodes.{AreUpTo, all_members, few, join_apart, no_node_apart, parts_apart}
use Rattle.view_laws.proofs.ballots.ApartNodes.{snoc_apart, two_apart}
use Rattle.view_laws.proofs.ballots.DistinctNodes.{apart_filter, some_node}
use Rattle.view_laws.proofs.memberships.SetTests.{among_in, among_is, filter_in, promoted_made, same_is, set_self}
use Rattle.view_laws.proofs.memberships.SetTests.{with_in, without_in}
use Rattle.view_laws.proofs.memberships.RowChanges.{Form, fills_one, has_one, president_of, remains}

-- the change that is read off a set: it shrinks, and promotes nobody, or it is a promotion
data Reads (base set : View) (members : List Member) (change : Change) : Type 0 where
  reads_part : change ≡ shrinks → Each (λ member. sets.promotes base set member ≡ false) members
      → Reads base set members change
  reads_promotion : (member : Member) → change ≡ promotes member → sets.promotes base set member ≡ true
      → Reads base set members change

reads : (base set : View) (members : List Member) → Reads base set members (promotion_among base set members)
reads base set [] = reads_part refl tt
reads base set (member ∷ members) = by (sets.promotes base set member) refl (reads base set members)
  where
    by : (b : Bool) → sets.promotes base set member ≡ b → Reads base set members (promotion_among base set members)
        → Reads base set (member ∷ members) (if b then promotes member else promotion_among base set members)
    by true e rest = reads_promotion member refl e
    by false e (reads_part is none) = reads_part is (e, none)
    by false e (reads_promotion one is passes) = reads_promotion one is passes

-- who proposes anything is the first of the full members
own_any : (me : Member) (base set : View) (change : Change) → oldest set.full ≡ Some me → IsOwn me base set change
own_any me base set shrinks own = own
own_any me base set (joins member) own = λ _. own
own_any me base set (promotes member) own = λ _. own

-- the president is the first of the full members that aren't suspected
at_is_get : (members : List Member) (at : Option ℕ) → member_at members at ≡ get_by members at
at_is_get members None = refl
at_is_get members (Some at) = refl

first_kept : (p : Member → Bool) (me : Member) (members : List Member) → presides_by me (first p members) ≡ true
    → oldest (filter p members) ≡ Some me
first_kept p me [] e = absurd (false≢true e)
first_kept p me (x ∷ members) e = by (p x) e (first_kept p me members)
  where
    by : (b : Bool) → presides_by me (if b then Some x else first p members) ≡ true
        → (presides_by me (first p members) ≡ true → oldest (filter p members) ≡ Some me)
        → oldest (cond b (x ∷ filter p members) (filter p members)) ≡ Some me
    by true is rest = ap (λ (m : Member). Some m) (sym (same_is me x is))
    by false is rest = rest is

president_first : (me : Member) (base : View) (suspects : List Member)
    → presides_by me (president_of base suspects) ≡ true → oldest (without base.full suspects) ≡ Some me
unfolding without
president_first me base suspects e =
    first_kept (is_trusted suspects) me base.full
    (subst (λ (o : Option Member). presides_by me o ≡ true)
    (at_is_get base.full (position (is_trusted suspects) base.full)
    ∙ first-get (is_trusted suspects) base.full)
    e)

-- what a set owes that is proposed
pub record IsMade (me : Member) (base set : View) (change : Change) : Type 0 where
  pub right : IsSet set
  pub own : IsOwn me base set change
  pub made : IsMadeOf base change set

-- a set without suspects
without_all : (base : View) (suspects : List Member)
    → without base.full suspects ++ without base.starting suspects ≡ without (all_of base) suspects
unfolding without
without_all base suspects = sym (filter-append _ base.full base.starting)

without_set : (base : View) (suspects members : List Member) → IsSet base → members ≡ without (all_of base) suspects
    → AreApart members × AreUpTo 8 members
unfolding without
without_set base suspects members is e =
    subst (λ (members : List Member). AreApart members × AreUpTo 8 members) (sym e) (
      apart_filter _ (all_of base) is.apart,
      each_from _ (without (all_of base) suspects)
          (λ one there. each_in _ one (all_of base) is.nodes (without_in (all_of base) suspects one there)),
    )

remains_set : (base set : View) (suspects : List Member) → IsSet base
    → set.full ≡ without base.full suspects → set.starting ≡ without base.starting suspects → IsSet set
remains_set base set suspects is full starting =
    let right =
    without_set base suspects (all_of set) is
    (ap (λ (xs : List Member). xs ++ set.starting) full
    ∙ ap (λ (xs : List Member). without base.full suspects ++ xs) starting ∙ without_all base suspects) in
    record { apart = right.0; nodes = right.1 }

remains_made : (me : Member) (base set : View) (suspects : List Member) (change : Change)
    → set.full ≡ without base.full suspects → set.starting ≡ without base.starting suspects
    → Reads base set set.full change → IsMadeOf base change set
remains_made me base set suspects change full starting (reads_part is none) =
    subst (λ (change : Change). IsMadeOf base change set) (sym is)
    (record {
      allowed = tt;
      full = each_from _ set.full (λ one there. inl (without_in base.full suspects one (subst (IsIn one) full there)));
      starting =
          each_from _ set.starting
          (λ one there. inl (without_in base.starting suspects one (subst (IsIn one) starting there)));
    })
remains_made me base set suspects change full starting (reads_promotion member is passes) =
    subst (λ (change : Change). IsMadeOf base change set) (sym is) (promoted_made base set member passes)

-- a set with a member that joins
joins_made : (base set : View) (member : Member) → IsSet base → has_node (members_of base) member ≡ false
    → set.full ≡ base.full → set.starting ≡ with_member base.starting member → IsMadeOf base (joins member) set
joins_made base set member is none full starting = record {
  allowed =
      no_node_apart (all_of base) member
      (subst (λ (members : List Member). has_node members member ≡ false) (all_members base is) none);
  full = each_from _ set.full (λ one there. inl (subst (IsIn one) full there));
  starting = each_from _ set.starting (λ one there. with_in base.starting member one (subst (IsIn one) starting there));
}

-- nobody is left out where somebody joins
joined_whole : (base : View) (member : Member) → length (all_of base ++ member ∷ []) ≤ 8
    → with_member base.starting member ≡ base.starting ++ member ∷ []
joined_whole base member few =
    take_all 8 (base.starting ++ member ∷ [])
    (omega (
      arith,
      few,
      length-append (all_of base) (member ∷ []),
      length-append base.full base.starting,
      length-append base.starting (member ∷ []),
    ))

joined_set : (base set : View) (member : Member) → IsSet base → (1 ≤ member.node) × (member.node ≤ 8)
    → Each (IsApart member) (all_of base)
    → set.full ≡ base.full → set.starting ≡ with_member base.starting member → IsSet set
joined_set base set member is node away full starting =
    let apart : AreApart (all_of base ++ member ∷ []) = snoc_apart (all_of base) member is.apart node.0 away in
    let nodes : AreUpTo 8 (all_of base ++ member ∷ []) =
    each_append _ (all_of base) (member ∷ []) is.nodes (node.1, tt) in
    let same : all_of set ≡ all_of base ++ member ∷ [] =
    ap (λ (xs : List Member). xs ++ set.starting) full
    ∙ ap (λ (xs : List Member). base.full ++ xs) (starting ∙ joined_whole base member (few 8 _ apart nodes))
    ∙ sym (append_assoc base.full base.starting (member ∷ [])) in
    record { apart = subst AreApart (sym same) apart; nodes = subst (AreUpTo 8) (sym same) nodes }

-- a set in which a member becomes full
some_length : (xs : List Member) (y : Member) → IsIn y xs → 1 ≤ length xs
some_length [] y is = absurd is
some_length (x ∷ xs) y is = omega arith

promoted_whole : (base : View) (member : Member) → IsSet base → IsIn member base.starting
    → with_member base.full member ≡ base.full ++ member ∷ []
promoted_whole base member is there =
    take_all 8 (base.full ++ member ∷ [])
    (omega (
      arith,
      few 8 (all_of base) is.apart is.nodes,
      some_length base.starting member there,
      length-append base.full base.starting,
      length-append base.full (member ∷ []),
    ))

-- the others of a part
others_in : (members : List Member) (member one : Member) → IsIn one (without members (member ∷ []))
    → IsIn one members × (not (is_among (member ∷ []) one) ≡ true)
unfolding without
others_in members member one there = filter_in _ members one there

others_apart : (members : List Member) (member : Member) → AreApart members → IsIn member members
    → Each (IsApart member) (without members (member ∷ []))
others_apart members member apart there = each_from _ (without members (member ∷ [])) by
  where
    by : (one : Member) → IsIn one (without members (member ∷ [])) → IsApart member one
    by one other = away (others_in members member one other) (two_apart members member one apart there)
      where
        away : IsIn one members × (not (is_among (member ∷ []) one) ≡ true)
            → (IsIn one members → (member ≡ one) ⊎ IsApart member one) → IsApart member one
        away parts tells = go (tells parts.0)
          where
            go : (member ≡ one) ⊎ IsApart member one → IsApart member one
            go (inl same) =
                absurd (true≢false (sym (among_in (member ∷ []) one (inl (sym same))) ∙ not-true _ parts.1))
            go (inr apart) = apart

without_apart : (members : List Member) (member : Member) → AreApart members
    → AreApart (without members (member ∷ []))
unfolding without
without_apart members member apart = apart_filter _ members apart

turned_apart : (full starting : List Member) (member : Member) → AreApart (full ++ starting) → IsIn member starting
    → AreApart (full ++ member ∷ without starting (member ∷ []))
turned_apart full starting member apart there =
    let parts = parts_apart full starting apart in
    join_apart full (member ∷ without starting (member ∷ []))
    (record {
      one = parts.one;
      other = (
        some_node starting member parts.other there,
        others_apart starting member parts.other there,
        without_apart starting member parts.other,
      );
      both =
          each_from _ full
          (λ x is.
          let away = each_in (λ x. Each (IsApart x) starting) x full parts.both is in (
            each_in (IsApart x) member starting away there,
            each_from _ (without starting (member ∷ []))
                (λ y other. each_in (IsApart x) y starting away (without_in starting (member ∷ []) y other)),
          ));
    })

turned_nodes : (full starting : List Member) (member : Member) → AreUpTo 8 (full ++ starting) → IsIn member starting
    → AreUpTo 8 (full ++ member ∷ without starting (member ∷ []))
turned_nodes full starting member low there =
    let others = each_after _ full starting low in
    each_append _ full (member ∷ without starting (member ∷ [])) (each_before _ full starting low) (
      each_in _ member starting others there,
      each_from _ (without starting (member ∷ []))
          (λ y other. each_in _ y starting others (without_in starting (member ∷ []) y other)),
    )

fills_set : (base set : View) (member : Member) → IsSet base → IsIn member base.starting
    → set.full ≡ with_member base.full member → set.starting ≡ without base.starting (member ∷ []) → IsSet set
fills_set base set member is there full starting =
    let same : all_of set ≡ base.full ++ member ∷ without base.starting (member ∷ []) =
    ap (λ (xs : List Member). xs ++ set.starting) (full ∙ promoted_whole base member is there)
    ∙ ap (λ (xs : List Member). (base.full ++ member ∷ []) ++ xs) starting
    ∙ append_assoc base.full (member ∷ []) (without base.starting (member ∷ [])) in
    record {
      apart = subst AreApart (sym same) (turned_apart base.full base.starting member is.apart there);
      nodes = subst (AreUpTo 8) (sym same) (turned_nodes base.full base.starting member is.nodes there);
    }

same_sets : (xs ys : List Member) → xs ≡ ys → is_same_set xs ys ≡ true
unfolding is_same_set
same_sets xs ys same = subst (λ (ys : List Member). is_same_set xs ys ≡ true) same (set_self xs)

-- the set promotes that member, as is read off it
promotes_it : (base set : View) (member : Member) → is_among base.starting member ≡ true
    → set.full ≡ with_member base.full member → set.starting ≡ without base.starting (member ∷ [])
    → sets.promotes base set member ≡ true
unfolding promoted_view
promotes_it base set member among full starting =
    and_from _ _ among
    (and_from _ _ (same_sets set.full (with_member base.full member) full)
    (same_sets set.starting (without base.starting (member ∷ [])) starting))

last_in : (xs : List Member) (y : Member) → IsIn y (xs ++ y ∷ [])
last_in xs y = in_append y xs (y ∷ []) (inl refl)

snoc_proposer : (me : Member) (xs : List Member) (y : Member) → oldest xs ≡ Some me → oldest (xs ++ y ∷ []) ≡ Some me
snoc_proposer me [] y e = absurd (none_some e)
  where
    is_there : Option Member → Bool
    is_there None = false
    is_there (Some m) = true

    none_some : None ≡ Some me → ⊥
    none_some e = false≢true (ap is_there e)
snoc_proposer me (x ∷ xs) y e = e

fills_made : (me : Member) (base set : View) (member : Member) (change : Change) → IsSet base
    → is_among base.starting member ≡ true
    → set.full ≡ with_member base.full member → set.starting ≡ without base.starting (member ∷ [])
    → Reads base set set.full change → IsOwn me base set change × IsMadeOf base change set
fills_made me base set member change is among full starting (reads_part same none) =
    let whole = promoted_whole base member is (among_is base.starting member among) in
    let there : IsIn member set.full = subst (IsIn member) (sym (full ∙ whole)) (last_in base.full member) in
    let not_it = each_in (λ one. sets.promotes base set one ≡ false) member set.full none there in
    absurd (true≢false (sym (promotes_it base set member among full starting) ∙ not_it))
fills_made me base set member change is among full starting (reads_promotion one same passes) =
    let whole = promoted_whole base member is (among_is base.starting member among) in
    subst (λ (change : Change). IsOwn me base set change × IsMadeOf base change set) (sym same) (
      (λ own. ap (λ (xs : List Member). oldest xs) (full ∙ whole) ∙ snoc_proposer me base.full member own),
      promoted_made base set one passes,
    )

-- each set that is proposed
pub made : (A : Type 0) (me : Member) (base set : View) (joining : Option Member) → A → IsSet base
    → Form A me base set joining → IsMade me base set (change_by base set joining)
made A me base set joining a is (remains suspects presides full starting none) =
    subst (λ (joining : Option Member). IsMade me base set (change_by base set joining)) (sym none)
    (record {
      right = remains_set base set suspects is full starting;
      own =
          own_any me base set _
          (ap (λ (xs : List Member). oldest xs) full ∙ president_first me base suspects presides);
      made = remains_made me base set suspects _ full starting (reads base set set.full);
    })
made A me base set joining a is (has_one member node none full starting one) =
    let made = joins_made base set member is none full starting in
    subst (λ (joining : Option Member). IsMade me base set (change_by base set joining)) (sym one)
    (record {
      right = joined_set base set member is (node a) made.allowed full starting;
      own = λ own. ap (λ (xs : List Member). oldest xs) full ∙ own;
      made = made;
    })
made A me base set joining a is (fills_one member among full starting none) =
    let parts = fills_made me base set member _ is among full starting (reads base set set.full) in
    subst (λ (joining : Option Member). IsMade me base set (change_by base set joining)) (sym none)
    (record {
      right = fills_set base set member is (among_is base.starting member among) full starting;
      own = parts.0;
      made = parts.1;
    })
