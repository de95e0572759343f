-- A chosen set that isn't the first view is made of a chosen one with a lesser number.
use Rattle.std.proofs.Common.{◌≡◌, ◌<◌, ◌≤◌, ◌⊎◌, ℕ, zero, suc, true, sym, ap, subst, inl, inr, arith, le_refl}
use Rattle.frag_map.specs.Groups.{is_viable}
use Rattle.run_theory.specs.Lists.{IsIn}
use Rattle.run_theory.proofs.Pasts.{each_in}
use Rattle.sig_core.specs.declared.member.Member.{Member}
use Rattle.sig_core.specs.declared.view.Shape.{Shape}
use Rattle.sig_core.specs.declared.view.View.{View}
use Rattle.view_laws.specs.Ballots.{Ballots, IsBacked, IsChosen, IsGranted, IsWon, NeedsNoGrant}
use Rattle.view_laws.specs.Orderly.{AreOrderly, IsProposal}
use Rattle.view_laws.specs.Sets.{AreApart, Change, IsMadeOf, all_of}
use Rattle.view_laws.proofs.ballots.ToldApart.{Meets}
use Rattle.view_laws.proofs.ballots.MadeSets.{full_in, made_full}

-- what is so of a set that has won, by its proposal
pub record Origin (shape : Shape) (b : Ballots) (set : View) : Type 0 where
  pub change : Change
  pub base : View
  pub chosen : IsChosen shape b base
  pub later : base.number < set.number
  pub made : IsMadeOf base change set
  pub viable : is_viable shape set ≡ true
  pub apart : AreApart (all_of set)
  pub by : Member
  pub by_full : IsIn by set.full
  pub backed : IsBacked b set
  pub free : NeedsNoGrant shape change set ⊎ IsGranted b set

module _ (shape : Shape) (b : Ballots) (set : View) (from : Origin shape b set) where
  -- a full member of the set was of the one of which it is made: so another set that has it meets the set
  pub full_meets : (member : Member) → IsIn member set.full → (other : View) → IsIn member (all_of other)
      → Meets from.base other set
  full_meets member i other j = record {
    member = member;
    in_base = made_full from.base from.change set from.made member i;
    in_one = j;
    in_other = full_in set member i;
  }

module _ (shape : Shape) (b : Ballots) (o : AreOrderly shape b) where
  pub origin : (set : View) → IsWon shape b set → Origin shape b set
  origin set won =
      let p = won.proposal in
      let facts : IsProposal shape b p = each_in (IsProposal shape b) p b.proposed o.proposed won.there in
      subst (Origin shape b) (sym won.is) (record {
        change = p.change;
        base = p.base;
        chosen = each_in (IsChosen shape b) p.base (b.installed facts.by) (o.installed facts.by) facts.installed;
        later = facts.later;
        made = facts.made;
        viable = facts.viable;
        apart = facts.apart;
        by = facts.by;
        by_full = facts.of;
        backed = subst (IsBacked b) won.is won.backed;
        free = subst (λ s. NeedsNoGrant shape p.change s ⊎ IsGranted b s) won.is won.free;
      })

  -- no chosen set comes before the first view
  first_least : (n : ℕ) (set : View) → IsChosen shape b set → set.number < n → b.first.number ≤ set.number
  first_least zero set chosen low = omega (arith, low)
  first_least (suc n) set (inl is) low =
      subst (λ (s : View). b.first.number ≤ s.number) (sym is) (le_refl b.first.number)
  first_least (suc n) set (inr won) low =
      let from = origin set won in
      let before : b.first.number ≤ from.base.number =
      first_least n from.base from.chosen (omega (arith, low, from.later)) in
      omega (arith, before, from.later)

  -- and what has won comes later
  pub won_later : (set : View) → Origin shape b set → b.first.number < set.number
  won_later set from =
      let before : b.first.number ≤ from.base.number =
      first_least (suc from.base.number) from.base from.chosen (omega arith) in
      omega (arith, before, from.later)

  -- so what comes later than some chosen set has won
  pub later_won : (before set : View) → IsChosen shape b before → IsChosen shape b set → before.number < set.number
      → Origin shape b set
  later_won before set chosen (inr won) later = origin set won
  later_won before set chosen (inl is) later =
      let low : b.first.number ≤ before.number = first_least (suc before.number) before chosen (omega arith) in
      let same : set.number ≡ b.first.number = ap (λ (s : View). s.number) is in
      absurd (omega (arith, low, later, same))

  -- in a chosen set no node stands twice
  pub chosen_apart : (set : View) → IsChosen shape b set → AreApart (all_of set)
  chosen_apart set (inl is) = subst (λ s. AreApart (all_of s)) (sym is) o.first_apart
  chosen_apart set (inr won) = (origin set won).apart
