-- The replicas of a fragment in a view, the primary first.
use Rattle.std.specs.Prelude.{ℕ, zero, suc, ◌+◌, ◌*◌, ◌/◌, ◌%◌, ◌==◌, ◌&&◌, nat_lt, Bool, if◌then◌else◌, List, [], ◌∷◌}
use Rattle.std.specs.Prelude.{◌++◌, filter, take}
use Rattle.std.specs.List.{list_any}
use Rattle.sig_core.specs.declared.member.Member.{Member}
use Rattle.sig_core.specs.declared.view.Shape.{Shape}
use Rattle.sig_core.specs.declared.view.View.{View}
use Rattle.frag_map.specs.Shape.{group_of}
use Rattle.frag_map.specs.Fragment.{group_of_fragment}

-- the member of this node that began the life
abbrev pub first_start : ℕ → Member
first_start node = record { node = node; start = 0 }

abbrev pub is_member : Member → Member → Bool
is_member a b = (a.node == b.node) && (a.start == b.start)

-- the node whose turn it is, of a fragment of this group: the places of a group are gone through from one on that moves
-- by one with each fragment of the group
abbrev pub node_in_turn : Shape → ℕ → ℕ → ℕ
node_in_turn shape fragment turn =
    group_of_fragment shape fragment * shape.replicas
    + (turn + fragment / (shape.nodes / shape.replicas)) % shape.replicas
    + 1

-- of the nodes of the first n turns those that are full members since the life began, in their order
abbrev pub in_turn : Shape → View → ℕ → ℕ → List Member
in_turn shape view fragment zero = []
in_turn shape view fragment (suc turn) =
    in_turn shape view fragment turn
    ++ (if list_any (is_member (first_start (node_in_turn shape fragment turn))) view.full
    then first_start (node_in_turn shape fragment turn) ∷ []
    else [])

-- the member is of the group
abbrev pub is_of_group : Shape → ℕ → Member → Bool
is_of_group shape group member = group_of shape member.node == group

-- it started later than the life
abbrev pub is_later : Member → Bool
is_later member = nat_lt 0 member.start

-- it is of the group, and started later
abbrev pub is_later_of_group : Shape → ℕ → Member → Bool
is_later_of_group shape group member = is_of_group shape group member && is_later member

-- all replicas of a fragment: of the nodes of its group those that are full since the life began, in turn; then the
-- other full ones, and then the starting ones, each by age
abbrev pub all_replicas : Shape → View → ℕ → List Member
all_replicas shape view fragment =
    in_turn shape view fragment shape.replicas
    ++ filter (is_later_of_group shape (group_of_fragment shape fragment)) view.full
    ++ filter (is_of_group shape (group_of_fragment shape fragment)) view.starting

-- The replicas of a fragment, the primary first. A view has no more than eight members, and so there are no more.
unfoldable pub replicas_of : Shape → View → ℕ → List Member
replicas_of shape view fragment = take 8 (all_replicas shape view fragment)
