-- Sets of members, compared. A set stands as a list, in the order in which its owner names the members.
use Rattle.std.specs.Prelude.{◌&&◌, ◌||◌, Bool, false, nat_eq, not, List, filter, Option, None, Some}
use Rattle.std.specs.Cmp.Lexicographic.{pointwise}
use Rattle.std.specs.List.{list_all, list_any}
use Rattle.sig_core.specs.declared.member.Member.{Member}

-- the two are one member
abbrev pub same_member : Member → Member → Bool
same_member one other = nat_eq one.node other.node && nat_eq one.start other.start

-- the member is among these
abbrev pub is_among : List Member → Member → Bool
is_among members member = list_any (same_member member) members

-- it is the member that joins
abbrev pub is_joining : Option Member → Member → Bool
is_joining None member = false
is_joining (Some joining) member = same_member joining member

-- the members without the one that joins
abbrev pub without_joining : Option Member → List Member → List Member
without_joining joining members = filter (λ member. not (is_joining joining member)) members

-- the member joins, or is among this set
abbrev pub joins_or_is_among : List Member → Option Member → Member → Bool
joins_or_is_among set joining member = is_joining joining member || is_among set member

-- the members, without the one that joins, lie in this set
unfoldable pub lie_in : List Member → List Member → Option Member → Bool
lie_in set members joining = list_all (joins_or_is_among set joining) members

-- the two are the same members in the same order
unfoldable pub is_same_set : List Member → List Member → Bool
is_same_set one other = pointwise same_member one other
