-- From a chosen set to a later one along the promises of a member of both: where no chosen set between shares a
-- member with the later one, that is made of the earlier one by one change.
use Rattle.std.proofs.Common.{◌≡◌, ◌<◌, ◌≤◌, ◌⊎◌, ℕ, Bool, true, false, List, [], ◌∷◌, refl, sym, ap, ◌∙◌, subst, inl}
use Rattle.std.proofs.Common.{inr, ⊎_elim, arith, eq-or-lt_of_le, le_refl}
use Rattle.run_theory.specs.Lists.{IsIn}
use Rattle.run_theory.proofs.Pasts.{each_in}
use Rattle.sig_core.specs.declared.member.Member.{Member}
use Rattle.sig_core.specs.declared.view.Shape.{Shape}
use Rattle.sig_core.specs.declared.view.View.{View}
use Rattle.view_laws.specs.Ballots.{Ballots, HasPromised, IsChosen, Promised}
use Rattle.view_laws.specs.Chain.{Follows}
use Rattle.view_laws.specs.Orderly.{AreOrderly, ArePromises, IsBehind, IsOut, IsSpecial}
use Rattle.view_laws.specs.Sets.{Change.joins, Change.shrinks, IsJoining, IsMadeOf, IsPart, all_of}
use Rattle.view_laws.proofs.ballots.ToldApart.{Meets}
use Rattle.view_laws.proofs.ballots.MadeOfLesser.{Origin, full_meets}
use Rattle.view_laws.proofs.ballots.Promises.{first_promise, older_promises, promises_rise}
use Rattle.view_laws.proofs.ballots.GreatestBelow.{NoneBetween}
use Rattle.view_laws.proofs.ballots.MadeSets.{full_in, joined_full, joining_new, made_from, made_joining, part_in}
use Rattle.view_laws.proofs.ballots.MadeSets.{part_made, part_self}

-- a set made of a chosen one that this member joined
pub record HasJoined (shape : Shape) (b : Ballots) (member : Member) (low : ℕ) (set : View) : Type 0 where
  pub base : View
  pub chosen : IsChosen shape b base
  pub above : low < base.number
  pub below : base.number < set.number
  pub made : IsMadeOf base (joins member) set

module _ (shape : Shape) (b : Ballots) (o : AreOrderly shape b) (member : Member) (before : View) (high : ℕ)
    (inside : IsIn member (all_of before))
    (alone : (other : View) → IsChosen shape b other → other.number ≡ before.number → other ≡ before)
    (none : (other : View) → IsChosen shape b other → before.number < other.number → other.number < high
    → IsIn member (all_of other) → ⊥)
  where
    -- how a promise behind that of the earlier set comes from it
    abbrev Stands : View → Type 0
    Stands set = Follows before set ⊎ HasJoined shape b member before.number set ⊎ IsOut set member

    part_stands : (last set : View) → last.number < set.number → Stands last → IsIn member (all_of set)
        → IsPart last set
        → Stands set
    part_stands last set later (inl from) i part =
        inl (record { change = from.change; made = part_made before from.change last set from.made part })
    part_stands last set later (inr (inl from)) i part =
        inr (inl (record {
          base = from.base;
          chosen = from.chosen;
          above = from.above;
          below = omega (arith, from.below, later);
          made = part_made from.base (joins member) last set from.made part;
        }))
    part_stands last set later (inr (inr out)) i part = absurd (out (part_in last set part member i))

    special_stands : (last set : View) → before.number ≤ last.number → last.number < set.number → set.number ≤ high
        → IsIn member (all_of set) → IsSpecial b member last set → Stands set
    special_stands last set low later below i special =
        by (eq-or-lt_of_le low) (made_from base special.change set special.made member i)
      where
        base : View
        base = special.base

        chosen : IsChosen shape b base
        chosen = each_in (IsChosen shape b) base (b.installed member) (o.installed member) special.installed

        is_before : before.number ≡ last.number → base ≡ before
        is_before e = alone base chosen (special.number ∙ sym e)

        by : (before.number ≡ last.number) ⊎ (before.number < last.number)
            → IsIn member (all_of base) ⊎ IsJoining special.change member → Stands set
        by (inl e) (inl j) =
            inl (record {
              change = special.change;
              made = subst (λ v. IsMadeOf v special.change set) (is_before e) special.made;
            })
        by (inr above) (inl j) =
            absurd (none base chosen (omega (arith, above, special.number))
            (omega (arith, special.number, later, below)) j)
        by (inl e) (inr joins_it) =
            absurd (joining_new base special.change member special.made.allowed joins_it
            (subst (λ v. IsIn member (all_of v)) (sym (is_before e)) inside))
        by (inr above) (inr joins_it) =
            inr (inl (record {
              base = base;
              chosen = chosen;
              above = omega (arith, above, special.number);
              below = omega (arith, special.number, later);
              made = made_joining base special.change set member joins_it special.made;
            }))

    next_stands : (last set : View) (adopted : Bool) → before.number ≤ last.number → last.number < set.number
        → set.number ≤ high → Stands last → IsBehind b member last set adopted → Stands set
    next_stands last set true low later below stands behind = inr (inr behind.out)
    next_stands last set false low later below stands behind =
        ⊎_elim (part_stands last set later stands behind.member_in)
        (special_stands last set low later below behind.member_in) behind.from

    stands : (newest : Promised) (older : List Promised) → ArePromises b member (newest ∷ older)
        → newest.set.number ≤ high
        → (one : Promised) → IsIn one (newest ∷ older) → one.set ≡ before
        → (before.number ≤ newest.set.number) × Stands newest.set
    stands newest older are below one (inl is) same =
        let e : before ≡ newest.set = sym same ∙ ap (λ (p : Promised). p.set) is in (
          omega (arith, ap (λ (v : View). v.number) e),
          subst Stands e (inl (record { change = shrinks; made = part_self before })),
        )
    stands newest [] are below one (inr i) same = absurd i
    stands newest (last ∷ older) are below one (inr i) same =
        let h = stands last older are.2 (omega (arith, below, are.0)) one i same in
        (omega (arith, h.0, are.0), next_stands last.set newest.set newest.adopted h.0 are.0 below h.1 are.1)

    pub promise_stands : (all : List Promised) → ArePromises b member all
        → (promise : Promised) → IsIn promise all → promise.set.number ≤ high → before.number < promise.set.number
        → (one : Promised) → IsIn one all → one.set ≡ before → Stands promise.set
    promise_stands [] are promise i below later one j same = absurd i
    promise_stands (newest ∷ older) are promise (inl is) below later one j same =
        let e : newest.set ≡ promise.set = ap (λ (p : Promised). p.set) (sym is) in
        subst Stands e (stands newest older are (omega (arith, ap (λ (v : View). v.number) e, below)) one j same).1
    promise_stands (newest ∷ older) are promise (inr i) below later one (inr j) same =
        promise_stands older (older_promises b member newest older are) promise i below later one j same
    promise_stands (newest ∷ older) are promise (inr i) below later one (inl is) same =
        absurd (omega (
          arith,
          promises_rise b member newest older are promise i,
          later,
          ap (λ (v : View). v.number) same,
          ap (λ (p : Promised). p.set.number) is,
        ))

module _ (shape : Shape) (b : Ballots) (o : AreOrderly shape b) where
  -- a member of a chosen set has promised it, if it has promised anything
  chosen_promise : (set : View) → IsChosen shape b set → (member : Member) → IsIn member (all_of set)
      → (some : Promised) → IsIn some (b.promises member)
      → (one : Promised) × IsIn one (b.promises member) × (one.set ≡ set)
  chosen_promise set (inl is) member i some j =
      let one = first_promise b member (b.promises member) (o.promises member) some j
      (subst (λ v. IsIn member (all_of v)) is i) in
      (one.0, one.1, one.2 ∙ sym is)
  chosen_promise set (inr won) member i some j = (
    record { set = set; adopted = false },
    (each_in (HasPromised b set) member (all_of set) won.backed i).promised,
    refl,
  )

  -- the later set is made of the earlier one
  pub follows : (before set : View) → IsChosen shape b before → (from : Origin shape b set) → before.number < set.number
      → ((other : View) → IsChosen shape b other → other.number ≡ before.number → other ≡ before)
      → NoneBetween (λ other. IsChosen shape b other × Meets from.base other set) before.number set.number
      → Meets from.base before set → Follows before set
  follows before set chosen from later alone none meets =
      end (promise_stands shape b o member before set.number meets.in_one alone between
      (b.promises member) (o.promises member) promise there (le_refl set.number) later one.0 one.1 one.2)
    where
      member : Member
      member = meets.member

      between : (other : View) → IsChosen shape b other → before.number < other.number → other.number < set.number
          → IsIn member (all_of other) → ⊥
      between other is above below i =
          none other
          (is, record { member = member; in_base = meets.in_base; in_one = i; in_other = meets.in_other }) above below

      promise : Promised
      promise = record { set = set; adopted = false }

      there : IsIn promise (b.promises member)
      there = (each_in (HasPromised b set) member (all_of set) from.backed meets.in_other).promised

      one : (one : Promised) × IsIn one (b.promises member) × (one.set ≡ before)
      one = chosen_promise before chosen member meets.in_one promise there

      -- the set can't be one that the member joined, since its proposer would be of that one too
      end : Follows before set ⊎ HasJoined shape b member before.number set ⊎ IsOut set member → Follows before set
      end (inl made) = made
      end (inr (inl h)) =
          let i : IsIn from.by set.full = from.by_full in
          let j : IsIn from.by (all_of h.base) =
          full_in h.base from.by (joined_full h.base member set h.made from.by i) in
          absurd (none h.base (h.chosen, full_meets shape b set from from.by i h.base j) h.above h.below)
      end (inr (inr out)) = absurd (out meets.in_other)
