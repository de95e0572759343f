-- What members have promised, proposed and been granted, and which sets are chosen by that.
use Rattle.std.specs.Prelude.{◌≡◌, ◌⊎◌, ℕ, Bool, true, false, List, Option}
use Rattle.frag_map.specs.Groups.{whole_group}
use Rattle.run_theory.specs.Lists.{Each, IsIn}
use Rattle.sig_core.specs.declared.member.Member.{Member}
use Rattle.sig_core.specs.declared.view.Shape.{Shape}
use Rattle.sig_core.specs.declared.view.View.{View}
use Rattle.view_laws.specs.Sets.{Change, all_of, joins, promotes, shrinks}

-- a set that became the last promise of a member: it was asked for it, or adopted the set as its host installed it
pub record Promised : Type 0 where
  pub set : View
  pub adopted : Bool

-- a set that was proposed, and of which installed view it was made, and how
pub record Proposed : Type 0 where
  pub set : View
  pub change : Change
  pub base : View

-- what the arbitrator granted: a number with a set of members, and who of them joined
pub record Granted : Type 0 where
  pub number : ℕ
  pub members : List Member
  pub joining : Option Member

-- All that members did. Of each member: what it promised, the newest first, which numbers it has confirmed, and the
-- views that the host of its membership has installed. Of all: what was proposed, and what was granted, the newest
-- first.
pub record Ballots : Type 0 where
  pub first : View
  pub promises : Member → List Promised
  pub confirmed : Member → List ℕ
  pub installed : Member → List View
  pub proposed : List Proposed
  pub grants : List Granted

-- the member was asked for the set, promised it, and has confirmed its number
pub record HasPromised (b : Ballots) (set : View) (member : Member) : Type 0 where
  pub promised : IsIn (record { set = set; adopted = false }) (b.promises member)
  pub confirmed : IsIn set.number (b.confirmed member)

-- each member of the set did so
abbrev pub IsBacked : Ballots → View → Type 0
IsBacked b set = Each (HasPromised b set) (all_of set)

-- the set was granted with its number
pub record IsGranted (b : Ballots) (set : View) : Type 0 where
  pub grant : Granted
  pub there : IsIn grant b.grants
  pub number : grant.number ≡ set.number
  pub members : grant.members ≡ all_of set

-- a set needs no grant that has a whole group, unless somebody joins
abbrev pub NeedsNoGrant : Shape → Change → View → Type 0
NeedsNoGrant shape shrinks set = whole_group shape set ≡ true
NeedsNoGrant shape (promotes member) set = whole_group shape set ≡ true
NeedsNoGrant shape (joins member) set = ⊥

-- a proposal is chosen: each member of it has promised it, and it was granted unless it needs no grant
pub record IsWon (shape : Shape) (b : Ballots) (set : View) : Type 0 where
  pub proposal : Proposed
  pub there : IsIn proposal b.proposed
  pub is : set ≡ proposal.set
  pub backed : IsBacked b set
  pub free : NeedsNoGrant shape proposal.change set ⊎ IsGranted b set

-- a set is chosen: the first view is, and each that has won
abbrev pub IsChosen : Shape → Ballots → View → Type 0
IsChosen shape b set = (set ≡ b.first) ⊎ IsWon shape b set
