-- What the replicas of a key are in the first view of a cluster.
use Rattle.std.specs.Prelude.{◌≡◌, ◌≤◌, ◌<◌, ℕ, true, List, length}
use Rattle.sig_core.specs.declared.member.Member.{Member}
use Rattle.sig_core.specs.declared.view.Shape.{Shape}
use Rattle.sig_core.specs.Chain.{node_at}
use Rattle.frag_map.specs.Groups.{is_viable}
use Rattle.frag_map.specs.Layout.{chain_of, first_layout, first_view, holds}
use Rattle.frag_map.specs.Shape.{IsShape}

-- the chain of a key in the first view
abbrev pub first_chain : Shape → List ℕ → List Member
first_chain shape key = chain_of (first_layout shape) key

-- no two replicas are on one node
abbrev pub ReplicasAreApart : Type 0
ReplicasAreApart =
    (shape : Shape) → IsShape shape → (key : List ℕ) (one other : ℕ)
    → one < length (first_chain shape key) → other < length (first_chain shape key)
    → node_at (first_chain shape key) one ≡ node_at (first_chain shape key) other → one ≡ other

-- each replica is on a node of the group that has the key
abbrev pub ReplicasAreOfTheGroup : Type 0
ReplicasAreOfTheGroup =
    (shape : Shape) → IsShape shape → (key : List ℕ) (at : ℕ) → at < length (first_chain shape key)
    → holds shape (node_at (first_chain shape key) at) key ≡ true

-- the node has a replica
pub record HasReplica (chain : List Member) (node : ℕ) : Type 0 where
  pub at : ℕ
  pub inside : at < length chain
  pub is : node_at chain at ≡ node

-- each node of that group has a replica
abbrev pub GroupHasAllReplicas : Type 0
GroupHasAllReplicas =
    (shape : Shape) → IsShape shape → (key : List ℕ) (node : ℕ) → 1 ≤ node → node ≤ shape.nodes
    → holds shape node key ≡ true → HasReplica (first_chain shape key) node

-- the first view is viable
abbrev pub FirstViewIsViable : Type 0
FirstViewIsViable = (shape : Shape) → IsShape shape → is_viable shape (first_view shape.nodes) ≡ true
