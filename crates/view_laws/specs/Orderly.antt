-- What is so of the ballots of each run, as far as the views that are chosen rest on it.
use Rattle.std.specs.Prelude.{◌≡◌, ◌<◌, ◌⊎◌, Bool, true, false, List, [], ◌∷◌, Option, Some}
use Rattle.frag_map.specs.Groups.{is_viable}
use Rattle.run_theory.specs.Lists.{Each, IsIn}
use Rattle.sig_core.specs.declared.member.Member.{Member}
use Rattle.sig_core.specs.declared.view.Shape.{Shape}
use Rattle.sig_core.specs.declared.view.View.{View}
use Rattle.view_laws.specs.Ballots.{Ballots, Granted, IsBacked, IsChosen, Promised, Proposed}
use Rattle.view_laws.specs.Sets.{AreApart, Change, IsMadeOf, IsPart, all_of, joining}

-- the member isn't of the set
abbrev pub IsOut : View → Member → Type 0
IsOut set member = IsIn member (all_of set) → ⊥

-- a set that a member adopts was installed by its host, and the member isn't of it
pub record IsAdopted (b : Ballots) (member : Member) (set : View) : Type 0 where
  pub installed : IsIn set (b.installed member)
  pub out : IsOut set member

-- the set is made of a view that the member's host has installed, whose number is that of its last promise
pub record IsSpecial (b : Ballots) (member : Member) (last set : View) : Type 0 where
  pub base : View
  pub installed : IsIn base (b.installed member)
  pub number : base.number ≡ last.number
  pub change : Change
  pub made : IsMadeOf base change set

-- a set that a member is asked for is a part of its last promise, or made of its installed view
pub record IsAskedFor (b : Ballots) (member : Member) (last set : View) : Type 0 where
  pub member_in : IsIn member (all_of set)
  pub from : IsPart last set ⊎ IsSpecial b member last set

-- a promise behind the last one
abbrev pub IsBehind : Ballots → Member → View → View → Bool → Type 0
IsBehind b member last set true = IsAdopted b member set
IsBehind b member last set false = IsAskedFor b member last set

abbrev pub IsNextPromise : Ballots → Member → View → Promised → Type 0
IsNextPromise b member last promise = IsBehind b member last promise.set promise.adopted

-- the oldest promise is the first view, where the member is of it, or a view that its first host began with
abbrev pub IsFirstPromise : Ballots → Member → Promised → Type 0
IsFirstPromise b member promise =
    (IsIn member (all_of b.first) × (promise.set ≡ b.first)) ⊎ (IsOut b.first member × IsAdopted b member promise.set)

-- promises rise, and each is one that may stand behind the one before
abbrev pub ArePromises : Ballots → Member → List Promised → Type 0
ArePromises b member [] = Unit {0}
ArePromises b member (promise ∷ []) = IsFirstPromise b member promise
ArePromises b member (promise ∷ last ∷ older) =
    (last.set.number < promise.set.number) × IsNextPromise b member last.set promise
    × ArePromises b member (last ∷ older)

-- a proposal: a set in which each group has a full member, made of a view that the host of its proposer, a full member
-- of it, has installed, with a greater number
pub record IsProposal (shape : Shape) (b : Ballots) (p : Proposed) : Type 0 where
  pub viable : is_viable shape p.set ≡ true
  pub apart : AreApart (all_of p.set)
  pub later : p.base.number < p.set.number
  pub by : Member
  pub of : IsIn by p.set.full
  pub installed : IsIn p.base (b.installed by)
  pub made : IsMadeOf p.base p.change p.set

-- a grant is of a proposal that each of its members has promised
pub record IsOfProposal (b : Ballots) (grant : Granted) : Type 0 where
  pub proposal : Proposed
  pub there : IsIn proposal b.proposed
  pub number : proposal.set.number ≡ grant.number
  pub members : all_of proposal.set ≡ grant.members
  pub joining : joining proposal.change ≡ grant.joining
  pub backed : IsBacked b proposal.set

-- a grant behind another: with a greater number its members are of that one's, but for who joins, and with the same
-- number they are the same
abbrev pub IsAmong : List Member → Option Member → Member → Type 0
IsAmong members joining member = IsIn member members ⊎ (Some member ≡ joining)

abbrev pub IsNextGrant : Granted → Granted → Type 0
IsNextGrant last grant =
    ((last.number < grant.number) × Each (IsAmong last.members grant.joining) grant.members)
    ⊎ ((grant.number ≡ last.number) × (grant.members ≡ last.members))

-- the first grant is that of the first view
abbrev pub IsFirstGrant : Ballots → Granted → Type 0
IsFirstGrant b grant = (grant.number ≡ b.first.number) × (grant.members ≡ all_of b.first)

abbrev pub AreGrants : Ballots → List Granted → Type 0
AreGrants b [] = Unit {0}
AreGrants b (grant ∷ []) = IsFirstGrant b grant
AreGrants b (grant ∷ last ∷ older) = IsOfProposal b grant × IsNextGrant last grant × AreGrants b (last ∷ older)

-- all of that; and what is installed is chosen
pub record AreOrderly (shape : Shape) (b : Ballots) : Type 0 where
  pub first_apart : AreApart (all_of b.first)
  pub promises : (member : Member) → ArePromises b member (b.promises member)
  pub proposed : Each (IsProposal shape b) b.proposed
  pub grants : AreGrants b b.grants
  pub installed : (member : Member) → Each (IsChosen shape b) (b.installed member)
