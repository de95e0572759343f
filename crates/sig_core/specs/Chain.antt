-- Chains: the replicas of a row, the primary first.
use Rattle.std.specs.Prelude.{ℕ, ◌-◌, List, [], ◌∷◌, length, slice_get, option_to_list, Option, None, Some}
use Rattle.sig_core.specs.declared.member.Member.{Member}

-- members by their nodes and starts
abbrev pub members_by : List ℕ → List ℕ → List Member
members_by (node ∷ nodes) (start ∷ starts) = record { node = node; start = start } ∷ members_by nodes starts
members_by _ _ = []

-- the primary of a chain, alone
abbrev pub primary_of : List Member → List Member
primary_of chain = option_to_list (slice_get chain 0)

-- the node of a replica; 0, which has no rows, where there is none
abbrev pub node_of : Option Member → ℕ
node_of None = 0
node_of (Some member) = member.node

-- the node at a place of a chain
abbrev pub node_at : List Member → ℕ → ℕ
node_at chain at = node_of (slice_get chain at)

-- the last place of a chain
abbrev pub last_place : List Member → ℕ
last_place chain = length chain - 1
