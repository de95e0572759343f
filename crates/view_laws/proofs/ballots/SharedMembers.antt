-- Two sets that follow the same chosen one share a full member, or both were granted. And what was granted after
-- another grant shares a member with a chosen set that the other comes to.
use Rattle.std.proofs.Common.{◌≡◌, ◌<◌, ◌⊎◌, ℕ, true, List, [], ◌∷◌, Some, refl, sym, ap, ◌∙◌, subst, inl, inr, ⊎_elim}
use Rattle.std.proofs.Common.{arith}
use Rattle.frag_map.specs.Groups.{whole_group}
use Rattle.frag_map.specs.Shape.{IsShape}
use Rattle.run_theory.specs.Lists.{IsIn}
use Rattle.run_theory.proofs.Pasts.{each_in}
use Rattle.sig_core.specs.declared.member.Member.{Member}
use Rattle.sig_core.specs.declared.view.Shape.{Shape}
use Rattle.sig_core.specs.declared.view.View.{View}
use Rattle.view_laws.specs.Ballots.{Ballots, Granted, IsBacked, IsChosen, IsGranted, NeedsNoGrant, Proposed}
use Rattle.view_laws.specs.Chain.{Follows}
use Rattle.view_laws.specs.Orderly.{AreGrants, AreOrderly, IsAmong, IsNextGrant, IsOfProposal, IsProposal}
use Rattle.view_laws.specs.Sets.{AreApart, Change, Change.joins, Change.promotes, Change.shrinks, IsAllowed, IsMadeOf}
use Rattle.view_laws.specs.Sets.{all_of, joining}
use Rattle.view_laws.proofs.ballots.ToldApart.{Meets}
use Rattle.view_laws.proofs.ballots.Grants.{Rise, grants_fall, grants_same, rise}
use Rattle.view_laws.proofs.ballots.SharedByGroups.{shares_full}
use Rattle.view_laws.proofs.ballots.MadeOfLesser.{Origin, chosen_apart, full_meets}
use Rattle.view_laws.proofs.ballots.Promises.{backed_same}
use Rattle.view_laws.proofs.ballots.GreatestBelow.{NoneBetween}
use Rattle.view_laws.proofs.ballots.MadeSets.{apart_self, full_in, made_full}

-- what needs no grant has a whole group
free_whole : (shape : Shape) (change : Change) (set : View) → NeedsNoGrant shape change set
    → whole_group shape set ≡ true
free_whole shape shrinks set free = free
free_whole shape (promotes member) set free = free
free_whole shape (joins member) set free = absurd free

-- who joins wasn't a member, by the name of who joins
named_new : (change : Change) (before : View) (member : Member) → IsAllowed before change → Some member ≡ joining change
    → IsIn member (all_of before) → ⊥
named_new shrinks before member allowed is i = absurd cc
named_new (promotes one) before member allowed is i = absurd cc
named_new (joins one) before member allowed is i =
    let same : member ≡ one = cc in
    apart_self one (all_of before) allowed (subst (λ m. IsIn m (all_of before)) same i)

module _ (shape : Shape) (is_shape : IsShape shape) (b : Ballots) (o : AreOrderly shape b) where
  -- two sets made of one chosen set share a full member, unless both were granted
  pub siblings_share : (before one other : View) → IsChosen shape b before → Follows before one → Follows before other
      → Origin shape b one → Origin shape b other
      → ((x : Member) → IsIn x one.full → IsIn x other.full → ⊥) → (IsGranted b one → IsGranted b other → ⊥) → ⊥
  siblings_share before one other chosen follows follows_too from from_too none neither =
      by from.free from_too.free
    where
      apart : AreApart (all_of before)
      apart = chosen_apart shape b o before chosen

      inside : (x : Member) → IsIn x one.full → IsIn x (all_of before)
      inside = made_full before follows.change one follows.made

      inside_too : (x : Member) → IsIn x other.full → IsIn x (all_of before)
      inside_too = made_full before follows_too.change other follows_too.made

      by : NeedsNoGrant shape from.change one ⊎ IsGranted b one
          → NeedsNoGrant shape from_too.change other ⊎ IsGranted b other → ⊥
      by (inl free) g =
          shares_full shape is_shape (all_of before) apart one other inside inside_too from.apart
          (free_whole shape from.change one free) from_too.viable none
      by (inr granted) (inl free) =
          shares_full shape is_shape (all_of before) apart other one inside_too inside from_too.apart
          (free_whole shape from_too.change other free) from.viable (λ x i j. none x j i)
      by (inr granted) (inr granted_too) = neither granted granted_too

  -- two sets that were granted with one number are the same
  pub granted_same : (one other : View) → Origin shape b one → Origin shape b other → IsGranted b one
      → IsGranted b other
      → one.number ≡ other.number → one ≡ other
  granted_same one other from from_too granted granted_too same =
      let alike : all_of one ≡ all_of other =
      sym granted.members
      ∙ (grants_same b b.grants o.grants granted.grant granted_too.grant granted.there granted_too.there
      (granted.number ∙ (same ∙ sym granted_too.number)) ∙ granted_too.members) in
      let i : IsIn from.by (all_of one) = full_in one from.by from.by_full in
      backed_same shape b o one other from.backed from_too.backed same from.by i (subst (IsIn from.by) alike i)

  -- Where the number rises from the last grant to one of this set, the full members of the set are of the last grant:
  -- the grant is of a proposal of the very set, and a full member isn't one that joined.
  kept_granted : (set : View) → IsBacked b set → (last grant : Granted) → IsOfProposal b grant → IsNextGrant last grant
      → last.number < grant.number → grant.number ≡ set.number → grant.members ≡ all_of set
      → (member : Member) → IsIn member set.full → IsIn member last.members
  kept_granted set backed last grant of next rises number members member i =
      by next
    where
      proposal : Proposed
      proposal = of.proposal

      made : IsMadeOf proposal.base proposal.change proposal.set
      made = (each_in (IsProposal shape b) proposal b.proposed o.proposed of.there).made

      inside : IsIn member (all_of set)
      inside = full_in set member i

      same : proposal.set ≡ set
      same =
          backed_same shape b o proposal.set set of.backed backed (of.number ∙ number) member
          (subst (IsIn member) (sym (of.members ∙ members)) inside) inside

      old : IsIn member (all_of proposal.base)
      old =
          made_full proposal.base proposal.change proposal.set made member
          (subst (λ v. IsIn member v.full) (sym same) i)

      by : IsNextGrant last grant → IsIn member last.members
      by (inl h) =
          ⊎_elim (λ k. k)
          (λ named. absurd (named_new proposal.change proposal.base member made.allowed (named ∙ sym of.joining) old))
          (each_in (IsAmong last.members grant.joining) member grant.members h.1
          (subst (IsIn member) (sym members) inside))
      by (inr h) = absurd (omega (arith, h.0, rises))

  -- what an older grant is of is a chosen set, if it isn't the first grant
  grant_chosen : (grant : Granted) → IsIn grant b.grants → (of : IsOfProposal b grant)
      → IsChosen shape b of.proposal.set
  grant_chosen grant there of = inr (record {
    proposal = of.proposal;
    there = of.there;
    is = refl;
    backed = of.backed;
    free = inr (record { grant = grant; there = there; number = sym of.number; members = sym of.members });
  })

  -- what was granted shares a member with a set that was granted before, or with a chosen one between
  pub granted_meets : (low : ℕ) (one set : View) → IsChosen shape b one → low < one.number → one.number < set.number
      → (from : Origin shape b set) → IsGranted b one → IsGranted b set
      → NoneBetween (λ other. IsChosen shape b other × Meets from.base other set) low set.number → ⊥
  granted_meets low one set chosen above below from granted granted_too none =
      by r.last r.older r.are r.rises r.there r.left kept
    where
      r : Rise b granted_too.grant granted.grant b.grants
      r = rise b b.grants o.grants granted_too.grant granted.grant granted_too.there granted.there
          (omega (arith, granted.number, granted_too.number, below))

      i : IsIn from.by set.full
      i = from.by_full

      kept : IsIn from.by r.last.members
      kept =
          kept_granted set from.backed r.last r.grant r.are.0 r.are.1 r.rises (r.number ∙ granted_too.number)
          (r.members ∙ granted_too.members) from.by i

      meets : (other : View) → IsIn from.by (all_of other) → Meets from.base other set
      meets = full_meets shape b set from from.by i

      by : (last : Granted) (older : List Granted) → AreGrants b (r.grant ∷ last ∷ older) → last.number < r.grant.number
          → IsIn last b.grants → IsIn granted.grant (last ∷ older) → IsIn from.by last.members → ⊥
      by last [] are rises there (inl is) k =
          let there = subst (IsIn from.by) (ap (λ (g : Granted). g.members) (sym is) ∙ granted.members) k in
          none one (chosen, meets one there)
          above below
      by last [] are rises there (inr j) k = j
      by last (first ∷ older) are rises there left k =
          let of : IsOfProposal b last = are.2.0 in
          none of.proposal.set
          (grant_chosen last there of, meets of.proposal.set (subst (IsIn from.by) (sym of.members) k))
          (omega (arith, above, granted.number, grants_fall b last (first ∷ older) are.2 granted.grant left, of.number))
          (omega (arith, of.number, rises, r.number, granted_too.number))
