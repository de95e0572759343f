-- Sets of members, and views made of others. A set stands as a list, in order of age.
use Rattle.std.specs.Prelude.{ℕ, ◌&&◌, ◌||◌, Bool, nat_eq, not, List, [], ◌∷◌, ◌++◌, filter, take}
use Rattle.std.specs.Cmp.Lexicographic.{pointwise}
use Rattle.std.specs.List.{list_all, list_any}
use Rattle.sig_core.specs.declared.member.Member.{Member}
use Rattle.sig_core.specs.declared.view.View.{View}

-- the two are one member
abbrev pub same_member : Member → Member → Bool
same_member one other = nat_eq one.node other.node && nat_eq one.start other.start

-- the member is among these
unfoldable pub is_among : List Member → Member → Bool
is_among members member = list_any (same_member member) members

-- those of the members that aren't among the others
unfoldable pub without : List Member → List Member → List Member
without members others = filter (λ member. not (is_among others member)) members

-- those of the members that are among the others
unfoldable pub within : List Member → List Member → List Member
within members others = filter (is_among others) members

-- the members with one more. No list has more than eight
abbrev pub with_member : List Member → Member → List Member
with_member members member = take 8 (members ++ member ∷ [])

-- all members of a view, the full ones first. A view has no more than eight
unfoldable pub members_of : View → List Member
members_of view = take 8 (view.full ++ view.starting)

-- the member is of the view
abbrev pub is_in : View → Member → Bool
is_in view member = is_among (members_of view) member

-- the members lie in this set
unfoldable pub lie_in : List Member → List Member → Bool
lie_in set members = list_all (is_among set) members

-- the full part lies in the full part, and the starting part in the starting part
abbrev pub is_part : View → View → Bool
is_part whole part = lie_in whole.full part.full && lie_in whole.starting part.starting

-- the two are the same members in the same order
unfoldable pub is_same_set : List Member → List Member → Bool
is_same_set one other = pointwise same_member one other

-- the two have the same members in the same parts, whatever their numbers
abbrev pub are_same_parts : View → View → Bool
are_same_parts one other = is_same_set one.full other.full && is_same_set one.starting other.starting

-- the view of this number in which a member more is starting
unfoldable pub joined_view : View → ℕ → Member → View
joined_view view number member =
    record { number = number; full = view.full; starting = with_member view.starting member }

-- the view of this number in which a starting member is full
unfoldable pub promoted_view : View → ℕ → Member → View
promoted_view view number member =
    record { number = number; full = with_member view.full member; starting = without view.starting (member ∷ []) }

-- the set is the view with just this member joined
abbrev pub joins : View → View → Member → Bool
joins view set member = not (is_in view member) && are_same_parts set (joined_view view set.number member)

-- the set is the view with just this member promoted
abbrev pub promotes : View → View → Member → Bool
promotes view set member =
    is_among view.starting member && are_same_parts set (promoted_view view set.number member)

-- the set is a join of the view
unfoldable pub is_join : View → View → Bool
is_join view set = list_any (joins view set) set.starting

-- it is a promotion
unfoldable pub is_promotion : View → View → Bool
is_promotion view set = list_any (promotes view set) set.full

-- the set is a join or a promotion of the view
unfoldable pub is_special : View → View → Bool
is_special view set = is_join view set || is_promotion view set
