-- Shapes of clusters.
use Rattle.std.specs.Prelude.{◌≡◌, ◌≤◌, ◌==◌, ◌&&◌, ℕ, ◌-◌, ◌/◌, ◌%◌, Bool, nat_le}
use Rattle.sig_core.specs.declared.view.Shape.{Shape}

-- A cluster may be laid out so: 1 to 8 nodes, 1 to 4 replicas of each row, which divide the number of nodes, and 1 to
-- 32 fragments.
pub record IsShape (shape : Shape) : Type 0 where
  pub nodes_some : 1 ≤ shape.nodes
  pub nodes_few : shape.nodes ≤ 8
  pub replicas_some : 1 ≤ shape.replicas
  pub replicas_few : shape.replicas ≤ 4
  pub even : shape.nodes % shape.replicas ≡ 0
  pub fragments_some : 1 ≤ shape.fragments
  pub fragments_few : shape.fragments ≤ 32

-- the same as a test
abbrev pub is_shape : Shape → Bool
is_shape shape =
    nat_le 1 shape.nodes && nat_le shape.nodes 8
    && nat_le 1 shape.replicas && nat_le shape.replicas 4 && (shape.nodes % shape.replicas == 0)
    && nat_le 1 shape.fragments && nat_le shape.fragments 32

-- how many groups of nodes there are
abbrev pub groups : Shape → ℕ
groups shape = shape.nodes / shape.replicas

-- the group of a node, from 0: the first nodes are in the first group
abbrev pub group_of : Shape → ℕ → ℕ
group_of shape node = (node - 1) / shape.replicas
