-- Groups of nodes in a view.
use Rattle.std.specs.Prelude.{ℕ, zero, suc, ◌+◌, nat_le, Bool, true, false, if◌then◌else◌, Option, None, Some, is_some}
use Rattle.std.specs.Prelude.{not, filter, length}
use Rattle.std.specs.List.{list_any}
use Rattle.sig_core.specs.declared.view.Shape.{Shape}
use Rattle.sig_core.specs.declared.view.View.{View}
use Rattle.frag_map.specs.Shape.{groups}
use Rattle.frag_map.specs.Replicas.{is_of_group}

-- a group has a full member
abbrev pub is_manned : Shape → View → ℕ → Bool
is_manned shape view group = list_any (is_of_group shape group) view.full

-- of n groups from this one on the first without a full member
abbrev pub lost_from : Shape → View → ℕ → ℕ → Option ℕ
lost_from shape view group zero = None
lost_from shape view group (suc n) =
    if is_manned shape view group then lost_from shape view (group + 1) n else Some group

-- the least group without a full member
unfoldable pub lost_group : Shape → View → Option ℕ
lost_group shape view = lost_from shape view 0 (groups shape)

-- a view is viable where each group has a full member
abbrev pub is_viable : Shape → View → Bool
is_viable shape view = not (is_some (lost_group shape view))

-- all nodes of a group are full members
abbrev pub is_whole : Shape → View → ℕ → Bool
is_whole shape view group = nat_le shape.replicas (length (filter (is_of_group shape group) view.full))

-- of n groups from this one on one is whole
abbrev pub whole_from : Shape → View → ℕ → ℕ → Bool
whole_from shape view group zero = false
whole_from shape view group (suc n) = if is_whole shape view group then true else whole_from shape view (group + 1) n

unfoldable pub whole_group : Shape → View → Bool
whole_group shape view = whole_from shape view 0 (groups shape)
