-- By induction on the number: chosen sets of one number are the same, and each follows the one before.
use Rattle.std.proofs.Common.{◌≡◌, ◌<◌, ℕ, zero, suc, refl, sym, ap, ◌∙◌, subst, inl, inr, ⊎_elim, arith}
use Rattle.std.proofs.Common.{eq-or-lt_of_le, le_of_suc-le-suc}
use Rattle.std.proofs.lemmas.Bool.Decides.{leb_tells}
use Rattle.frag_map.specs.Shape.{IsShape}
use Rattle.run_theory.specs.Lists.{IsIn}
use Rattle.sig_core.specs.declared.member.Member.{Member}
use Rattle.sig_core.specs.declared.view.Shape.{Shape}
use Rattle.sig_core.specs.declared.view.View.{View}
use Rattle.view_laws.specs.Ballots.{Ballots, IsChosen, IsGranted}
use Rattle.view_laws.specs.Chain.{Follows, IsNext}
use Rattle.view_laws.specs.Orderly.{AreOrderly}
use Rattle.view_laws.specs.Sets.{all_of}
use Rattle.view_laws.proofs.ballots.ToldApart.{Meets, decide_meets, stable_view}
use Rattle.view_laws.proofs.ballots.MadeOfLesser.{Origin, full_meets, later_won, origin, won_later}
use Rattle.view_laws.proofs.ballots.Promises.{backed_same}
use Rattle.view_laws.proofs.ballots.GreatestBelow.{NoneBetween, greatest, least}
use Rattle.view_laws.proofs.ballots.MadeSets.{full_in, made_full}
use Rattle.view_laws.proofs.ballots.SharedMembers.{granted_meets, granted_same, siblings_share}
use Rattle.view_laws.proofs.ballots.FromChosenToLater.{follows}

-- the two laws for all numbers below this one
pub record AreChained (shape : Shape) (b : Ballots) (high : ℕ) : Type 0 where
  pub same : (one other : View) → IsChosen shape b one → IsChosen shape b other → one.number ≡ other.number
      → one.number < high → one ≡ other
  pub next : (before after : View) → IsNext shape b before after → after.number < high → Follows before after

-- the two sets before sets of one number have one number
before_same : (shape : Shape) (b : Ballots) (before other set with : View) → IsNext shape b before set
    → IsNext shape b other with → set.number ≡ with.number → before.number ≡ other.number
before_same shape b before other set with next next_too same =
    ⊎_elim (λ h. ⊎_elim (λ e. e) above (eq-or-lt_of_le h.1)) (λ h. absurd (below h.1))
    (leb_tells before.number other.number)
  where
    above : before.number < other.number → before.number ≡ other.number
    above lt = absurd (next.none other next_too.one lt (omega (arith, next_too.later, same)))

    below : other.number < before.number → ⊥
    below lt = next_too.none before next.one lt (omega (arith, next.later, same))

module _ (shape : Shape) (is_shape : IsShape shape) (b : Ballots) (o : AreOrderly shape b) where
  -- the set before is the same for sets of one number
  before_one : (before other set with : View) → AreChained shape b set.number → IsNext shape b before set
      → IsNext shape b other with → set.number ≡ with.number → other ≡ before
  before_one before other set with chained next next_too same =
      chained.same other before next_too.one next.one
      (sym (before_same shape b before other set with next next_too same))
      (omega (arith, next_too.later, same))

  -- A set that has won, where both laws hold below its number.
  module _ (set : View) (chosen : IsChosen shape b set) (from : Origin shape b set)
      (chained : AreChained shape b set.number)
    where
      -- a chosen set that shares a member with it
      abbrev IsMet : View → Type 0
      IsMet other = IsChosen shape b other × Meets from.base other set

      -- it follows the last of these
      met_follows : (before : View) → IsMet before → before.number < set.number
          → NoneBetween IsMet before.number set.number → Follows before set
      met_follows before met below none =
          follows shape b o before set met.0 from below
          (λ other is same. chained.same other before is met.0 same (omega (arith, same, below))) none met.1

      -- None is chosen between: the first of those would follow the last that it meets, as the set does, and they would
      -- share a member.
      met_next : (before : View) → IsMet before → before.number < set.number
          → NoneBetween IsMet before.number set.number
          → IsNext shape b before set
      met_next before met below none = record {
        one = met.0;
        other = chosen;
        later = below;
        none = least (IsChosen shape b) before.number set.number first;
      }
        where
          first : (after : View) → IsChosen shape b after → before.number < after.number → after.number < set.number
              → NoneBetween (IsChosen shape b) before.number after.number → ⊥
          first after is above under lone =
              siblings_share shape is_shape b o before after set met.0
              (chained.next before after (record { one = met.0; other = is; later = above; none = lone }) under)
              (met_follows before met below none) (later_won shape b o before after met.0 is above) from
              (λ x i j. none after (is, full_meets shape b set from x j after (full_in after x i)) above under)
              (λ granted granted_too.
              granted_meets shape is_shape b o before.number after set is above under from granted
              granted_too none)

      -- so there is one before it, which it meets and follows
      pub last_met : ((before : View) → IsNext shape b before set → Meets from.base before set → Follows before set → ⊥)
          → ⊥
      last_met none =
          greatest IsMet set.number
          (λ before met below alone. none before (met_next before met below alone) met.1
          (met_follows before met below alone))
          from.base (from.chosen, full_meets shape b set from from.by by from.base base) from.later
        where
          by : IsIn from.by set.full
          by = from.by_full

          base : IsIn from.by (all_of from.base)
          base = made_full from.base from.change set from.made from.by by

  -- two sets that have won with one number and follow one chosen set share a full member, or both were granted: so they
  -- are the same
  siblings_same : (before one other : View) → IsChosen shape b before → Follows before one → Follows before other
      → Origin shape b one → Origin shape b other → one.number ≡ other.number → one ≡ other
  siblings_same before one other chosen follows_it follows_too from from_too same =
      stable_view one other (λ differ.
      siblings_share shape is_shape b o before one other chosen follows_it follows_too from from_too
      (λ x i j. differ (shared x i j)) (λ granted granted_too. differ (both granted granted_too)))
    where
      shared : (x : Member) → IsIn x one.full → IsIn x other.full → one ≡ other
      shared x i j =
          backed_same shape b o one other from.backed from_too.backed same x (full_in one x i) (full_in other x j)

      both : IsGranted b one → IsGranted b other → one ≡ other
      both granted granted_too = granted_same shape is_shape b o one other from from_too granted granted_too same

  won_same : (one other : View) → IsChosen shape b one → IsChosen shape b other → Origin shape b one
      → Origin shape b other
      → one.number ≡ other.number → AreChained shape b one.number → one ≡ other
  won_same one other chosen chosen_too from from_too same chained =
      stable_view one other (λ differ. last_met one chosen from chained (λ before next meets made.
      last_met other chosen_too from_too chained_too (λ with next_too meets_too made_too.
      differ
      (siblings_same before one other next.one made (here before with next next_too made_too) from from_too same))))
    where
      here : (before with : View) → IsNext shape b before one → IsNext shape b with other → Follows with other
          → Follows before other
      here before with next next_too made =
          subst (λ v. Follows v other) (before_one before with one other chained next next_too same) made

      chained_too : AreChained shape b other.number
      chained_too = subst (AreChained shape b) same chained

  chosen_same : (one other : View) → IsChosen shape b one → IsChosen shape b other → one.number ≡ other.number
      → AreChained shape b one.number → one ≡ other
  chosen_same one other (inl is) (inl like) same chained = is ∙ sym like
  chosen_same one other (inl is) (inr won) same chained =
      let later = won_later shape b o other (origin shape b o other won) in
      absurd (omega (arith, later, same, ap (λ (v : View). v.number) is))
  chosen_same one other (inr won) (inl like) same chained =
      absurd (omega (arith, won_later shape b o one (origin shape b o one won), same, ap (λ (v : View). v.number) like))
  chosen_same one other (inr won) (inr won_too) same chained =
      won_same one other (inr won) (inr won_too) (origin shape b o one won) (origin shape b o other won_too) same
      chained

  -- A chosen set follows the one before: they share a member, since the set shares one with some that is the one
  -- before.
  next_follows : (before after : View) → IsNext shape b before after → AreChained shape b after.number
      → Follows before after
  next_follows before after next chained =
      ⊎_elim (λ meets. met_follows after next.other from chained before (next.one, meets) next.later none)
      (λ apart. absurd (last_met after next.other from chained
      (λ other next_too meets made. apart (here other next_too meets))))
      (decide_meets from.base before after)
    where
      from : Origin shape b after
      from = later_won shape b o before after next.one next.other next.later

      none : NoneBetween (λ other. IsChosen shape b other × Meets from.base other after) before.number after.number
      none other is above below = next.none other is.0 above below

      here : (other : View) → IsNext shape b other after → Meets from.base other after → Meets from.base before after
      here other next_too meets =
          subst (λ v. Meets from.base v after) (before_one before other after after chained next next_too refl) meets

  chained_more : (high : ℕ) → AreChained shape b high → AreChained shape b (suc high)
  chained_more high chained = record {
    same = λ one other chosen chosen_too same below. ⊎_elim
        (λ at. chosen_same one other chosen chosen_too same (subst (AreChained shape b) (sym at) chained))
        (chained.same one other chosen chosen_too same) (eq-or-lt_of_le (le_of_suc-le-suc below));
    next = λ before after next below. ⊎_elim
        (λ at. next_follows before after next (subst (AreChained shape b) (sym at) chained))
        (chained.next before after next) (eq-or-lt_of_le (le_of_suc-le-suc below));
  }

  pub chained : (high : ℕ) → AreChained shape b high
  chained zero = record {
    same = λ one other chosen chosen_too same below. absurd (omega (arith, below));
    next = λ before after next below. absurd (omega (arith, below));
  }
  chained (suc high) = chained_more high (chained high)
