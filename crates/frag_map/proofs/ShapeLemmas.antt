-- Arithmetic of the places of nodes.
use Rattle.std.proofs.Common.{◌≡◌, ◌≤◌, ◌<◌, ℕ, ◌+◌, ◌-◌, ◌*◌, ◌/◌, ap, ◌∙◌, arith}
use Rattle.std.proofs.lemmas.Nat.{div-add-mod', div-mul-add, mod_below, mul-add-lt}
use Rattle.sig_core.specs.declared.view.Shape.{Shape}
use Rattle.frag_map.specs.Fragment.{group_of_fragment}
use Rattle.frag_map.specs.Shape.{IsShape, group_of, groups}

-- the groups have all nodes
pub groups-all : (shape : Shape) → IsShape shape → groups shape * shape.replicas ≡ shape.nodes
groups-all shape is = omega (arith, div-add-mod' shape.nodes shape.replicas, is.even)

-- there is a group
pub groups-some : (shape : Shape) → IsShape shape → 1 ≤ groups shape
groups-some shape is = grind (arith, groups-all shape is)

pub ruleset seats = (groups-all, groups-some)

-- a fragment is of one of the groups
pub fragment_group_below : (shape : Shape) → IsShape shape → (fragment : ℕ)
    → group_of_fragment shape fragment < groups shape
fragment_group_below shape is fragment = mod_below fragment (groups shape) (groups-some shape is)

-- a place in a group is that of a node
pub seat_below : (shape : Shape) → IsShape shape → (group seat : ℕ) → group < groups shape → seat < shape.replicas
    → group * shape.replicas + seat + 1 ≤ shape.nodes
seat_below shape is group seat group_low seat_low =
    grind (arith, mul-add-lt group shape.replicas seat (groups shape) group_low seat_low, groups-all shape is)

-- and the node is of that group
pub group_of-seat : (shape : Shape) (group seat : ℕ) → seat < shape.replicas
    → group_of shape (group * shape.replicas + seat + 1) ≡ group
group_of-seat shape group seat low =
    let before : group * shape.replicas + seat + 1 - 1 ≡ group * shape.replicas + seat = omega arith in
    ap (λ n. n / shape.replicas) before ∙ div-mul-add group shape.replicas seat low
