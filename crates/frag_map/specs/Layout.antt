-- Where the rows are: the shape of a cluster, and the view in force.
use Rattle.std.specs.Prelude.{ℕ, zero, suc, ◌+◌, ◌==◌, Bool, List, [], ◌∷◌, ◌++◌}
use Rattle.sig_core.specs.declared.member.Member.{Member}
use Rattle.sig_core.specs.declared.view.Shape.{Shape}
use Rattle.sig_core.specs.declared.view.View.{View}
use Rattle.frag_map.specs.Fragment.{frag_of, group_of_key}
use Rattle.frag_map.specs.Replicas.{replicas_of}
use Rattle.frag_map.specs.Shape.{group_of}

pub record Layout : Type 0 where
  pub shape : Shape
  pub view : View

-- the replicas of a key, the primary first
unfoldable pub chain_of : Layout → List ℕ → List Member
chain_of layout key = replicas_of layout.shape layout.view (frag_of layout.shape key)

-- another view is installed
abbrev pub in_view : Layout → View → Layout
in_view layout view = record { shape = layout.shape; view = view }

-- the node is in the group that has the key
abbrev pub holds : Shape → ℕ → List ℕ → Bool
holds shape node key = group_of shape node == group_of_key shape key

-- the nodes from 1 to n, as they begin a life
abbrev pub members : ℕ → List Member
members zero = []
members (suc n) = members n ++ record { node = n + 1; start = 0 } ∷ []

-- the number of the view in which all nodes begin
abbrev pub first_number : ℕ
first_number = 1

-- that view, of so many nodes
abbrev pub first_view : ℕ → View
first_view nodes = record { number = first_number; full = members nodes; starting = [] }

-- a cluster of this shape in its first view
abbrev pub first_layout : Shape → Layout
first_layout shape = record { shape = shape; view = first_view shape.nodes }

-- no rows are anywhere: the layout of what isn't of a node
abbrev pub nowhere : Layout
nowhere = first_layout (record { nodes = 0; replicas = 0; fragments = 0 })
