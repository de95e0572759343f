-- Members are of the cluster where their nodes are.
use Rattle.std.proofs.Common.{◌≡◌, List, [], ◌∷◌, map, length, refl, ap}
use Rattle.std.specs.List.{list_all}
use Rattle.std.specs.Prelude.{◌&&◌, suc}
use Rattle.sig_core.specs.declared.member.Member.{Member}
use Rattle.sig_core.specs.declared.view.Shape.{Shape}
use Rattle.node_views.specs.WellFormed.{are_nodes, is_node}

pub all_nodes : (shape : Shape) (chain : List Member)
    → list_all (is_node shape) (map (λ (member : Member). member.node) chain) ≡ are_nodes shape chain
all_nodes shape [] = refl
all_nodes shape (member ∷ chain) = ap (λ b. is_node shape member.node && b) (all_nodes shape chain)

pub nodes_as_many : (chain : List Member) → length (map (λ (member : Member). member.node) chain) ≡ length chain
nodes_as_many [] = refl
nodes_as_many (member ∷ chain) = ap suc (nodes_as_many chain)

pub ruleset chain_nodes = (all_nodes, nodes_as_many)
