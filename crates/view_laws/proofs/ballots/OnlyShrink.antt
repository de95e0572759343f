-- Where no chosen set has starting members, each is a part of all that are chosen with a lesser number.
use Rattle.std.proofs.Common.{◌≡◌, ◌⊎◌, ◌<◌, ◌≤◌, ℕ, zero, suc, List, [], ◌∷◌, sym, subst, arith, inl, inr, ⊎_elim}
use Rattle.std.proofs.lemmas.Bool.{cases_lt}
use Rattle.frag_map.specs.Shape.{IsShape}
use Rattle.run_theory.specs.Lists.{Each, IsIn}
use Rattle.sig_core.specs.declared.member.Member.{Member}
use Rattle.sig_core.specs.declared.view.Shape.{Shape}
use Rattle.sig_core.specs.declared.view.View.{View}
use Rattle.view_laws.specs.Ballots.{Ballots, IsChosen}
use Rattle.view_laws.specs.Chain.{Follows, IsNext}
use Rattle.view_laws.specs.Orderly.{AreOrderly}
use Rattle.view_laws.specs.Sets.{Change, IsMadeOf, IsPart, joins, promotes, shrinks}
use Rattle.view_laws.proofs.ballots.ToldApart.{IsDecided, decide_as, decide_both, decide_in}
use Rattle.view_laws.proofs.ballots.OneOfANumber.{chained}
use Rattle.view_laws.proofs.ballots.GreatestBelow.{greatest}
use Rattle.view_laws.proofs.ballots.MadeSets.{part_made}

-- whether a set is a part of another can be told
abbrev AreOf : List Member → List Member → Type 0
AreOf others members = Each (λ (member : Member). IsIn member others ⊎ ⊥) members

decide_of : (others members : List Member) → IsDecided (AreOf others members)
decide_of others [] = inl tt
decide_of others (member ∷ members) =
    decide_both (decide_as (λ there. inl there) (⊎_elim (λ there. there) (λ none. absurd none))
    (decide_in member others))
    (decide_of others members)

decide_part : (before set : View) → IsDecided (IsPart before set)
decide_part before set =
    decide_as (λ both. record { allowed = tt; full = both.0; starting = both.1 }) (λ part. (part.full, part.starting))
    (decide_both (decide_of before.full set.full) (decide_of before.starting set.starting))

-- what can't but be a part is one
stable_part : (before set : View) → ((IsPart before set → ⊥) → ⊥) → IsPart before set
stable_part before set must = ⊎_elim (λ part. part) (λ isnt. absurd (must isnt)) (decide_part before set)

-- a change is one that shrinks where nobody is starting before nor after
pub change_shrinks : (before set : View) (change : Change) → before.starting ≡ [] → set.starting ≡ []
    → IsMadeOf before change set → IsPart before set
change_shrinks before set shrinks none none_too made = made
change_shrinks before set (joins member) none none_too made = record {
  allowed = tt;
  full = made.full;
  starting = subst (AreOf before.starting) (sym none_too) tt;
}
change_shrinks before set (promotes member) none none_too made = absurd (subst (IsIn member) none made.allowed)

module _ (shape : Shape) (is_shape : IsShape shape) (b : Ballots) (o : AreOrderly shape b)
    (none : (set : View) → IsChosen shape b set → set.starting ≡ [])
  where
    -- the next set is a part
    next_part : (before set : View) → IsNext shape b before set → IsPart before set
    next_part before set next =
        let follows : Follows before set =
        (chained shape is_shape b o (suc set.number)).next before set next (omega arith) in
        change_shrinks before set follows.change (none before next.one) (none set next.other) follows.made

    -- each set below this number is a part of all that are below it
    abbrev ShrinkBelow : ℕ → Type 0
    ShrinkBelow high =
        (one other : View) → IsChosen shape b one → IsChosen shape b other → one.number < other.number
        → other.number < high
        → IsPart one other

    -- by way of the set before
    part_by : (high : ℕ) → ShrinkBelow high → (one other before : View) → IsChosen shape b one
        → one.number < other.number
        → other.number ≤ high → IsNext shape b before other → IsPart one other
    part_by high earlier one other before chosen less below next =
        by (cases_lt one.number before.number) (cases_lt before.number one.number)
      where
        by : (one.number < before.number) ⊎ (before.number ≤ one.number)
            → (before.number < one.number) ⊎ (one.number ≤ before.number) → IsPart one other
        by (inl above) under =
            part_made one shrinks before other
            (earlier one before chosen next.one above (omega (arith, next.later, below))) (next_part before other next)
        by (inr low) (inl between) = absurd (next.none one chosen between less)
        by (inr low) (inr high) =
            subst (λ (v : View). IsPart v other)
            ((chained shape is_shape b o (suc before.number)).same before one next.one chosen (omega (arith, low, high))
            (omega arith))
            (next_part before other next)

    shrink_below : (high : ℕ) → ShrinkBelow high
    shrink_below zero one other chosen chosen_too less below = absurd (omega (arith, below))
    shrink_below (suc high) one other chosen chosen_too less below =
        stable_part one other
        (λ isnt.
        greatest (IsChosen shape b) other.number
        (λ before is under alone.
        isnt
        (part_by high (shrink_below high) one other before chosen less (omega (arith, below))
        (record { one = is; other = chosen_too; later = under; none = alone })))
        one chosen less)

    pub chosen_shrink : (one other : View) → IsChosen shape b one → IsChosen shape b other → one.number < other.number
        → IsPart one other
    chosen_shrink one other chosen chosen_too less =
        shrink_below (suc other.number) one other chosen chosen_too less (omega arith)
