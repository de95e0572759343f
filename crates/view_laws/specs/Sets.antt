-- Sets of members, as views have them.
use Rattle.std.specs.Prelude.{◌≡◌, ◌≤◌, ◌⊎◌, List, [], ◌∷◌, ◌++◌, Option, None, Some}
use Rattle.run_theory.specs.Lists.{Each, IsIn}
use Rattle.sig_core.specs.declared.member.Member.{Member}
use Rattle.sig_core.specs.declared.view.View.{View}

-- all members of a set, the full ones first
abbrev pub all_of : View → List Member
all_of set = set.full ++ set.starting

-- no node has two of these members, and each has a node
abbrev pub IsApart : Member → Member → Type 0
IsApart one other = one.node ≡ other.node → ⊥

abbrev pub AreApart : List Member → Type 0
AreApart [] = Unit {0}
AreApart (member ∷ members) = (1 ≤ member.node) × Each (IsApart member) members × AreApart members

-- how a set differs from another of which it is made: not but by members that it lacks, or by one that joins, or by one
-- that was starting and becomes full
pub data Change : Type 0 where
  shrinks : Change
  joins : Member → Change
  promotes : Member → Change

-- the member that joins
abbrev pub joining : Change → Option Member
joining (joins member) = Some member
joining change = None

abbrev pub IsJoining : Change → Member → Type 0
IsJoining (joins one) member = member ≡ one
IsJoining change member = ⊥

abbrev pub IsPromoted : Change → Member → Type 0
IsPromoted (promotes one) member = member ≡ one
IsPromoted change member = ⊥

-- who joins is of a node that has no member yet, and who becomes full was starting
abbrev pub IsAllowed : View → Change → Type 0
IsAllowed before shrinks = Unit {0}
IsAllowed before (joins member) = Each (IsApart member) (all_of before)
IsAllowed before (promotes member) = IsIn member before.starting

-- the set is made of the one before by this change, and may lack some of the members
pub record IsMadeOf (before : View) (change : Change) (set : View) : Type 0 where
  pub allowed : IsAllowed before change
  pub full : Each (λ member. IsIn member before.full ⊎ IsPromoted change member) set.full
  pub starting : Each (λ member. IsIn member before.starting ⊎ IsJoining change member) set.starting

-- the set is a part of the one before
abbrev pub IsPart : View → View → Type 0
IsPart before set = IsMadeOf before shrinks set
