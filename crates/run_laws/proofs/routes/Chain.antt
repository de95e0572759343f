-- The replicas of a key: each once, on nodes of its group, and each with a host of its own.
use Rattle.std.proofs.Common.{◌≡◌, ◌<◌, ℕ, List, [], ◌∷◌, length, refl, arith}
use Rattle.sig_core.specs.declared.member.Member.{Member}
use Rattle.sig_core.specs.Chain.{last_place, node_at, primary_of}
use Rattle.frag_map.proofs.FirstReplicas.{first_apart, first_group, first_length, first_nodes}
use Rattle.frag_map.specs.Shape.{IsShape}
use Rattle.world_core.proofs.HostNumbers.{rows_host_apart}
use Rattle.world_core.specs.Start.{Start}
use Rattle.run_laws.specs.Routes.{ReplicasAreNodes, replica_host, replicas}

pub replicas_some : (start : Start) → IsShape start.shape → (key : List ℕ) → 0 < length (replicas start key)
replicas_some start is key = omega (arith, is.replicas_some, first_length start.shape is key)

pub replicas_are_nodes : ReplicasAreNodes
replicas_are_nodes start key at is inside =
    let nodes = first_nodes start.shape is key at inside in
    record { from = nodes.0; to = nodes.1; holding = first_group start.shape is key at inside }

-- no two have one host
pub hosts_are_apart : (start : Start) (key : List ℕ) (one other : ℕ) → IsShape start.shape
    → one < length (replicas start key)
    → other < length (replicas start key) → replica_host start key one ≡ replica_host start key other → one ≡ other
hosts_are_apart start key one other is here there same =
    let a = replicas_are_nodes start key one is here in
    let b = replicas_are_nodes start key other is there in
    first_apart start.shape is key one other here there
    (rows_host_apart start (node_at (replicas start key) one)
    (node_at (replicas start key) other) a.from a.to b.from b.to same)

-- the primary alone
pub primary_length : (chain : List Member) → 0 < length chain → length (primary_of chain) ≡ 1
primary_length [] some = absurd (omega (arith, some))
primary_length (m ∷ chain) some = refl

pub primary_first : (chain : List Member) → node_at (primary_of chain) 0 ≡ node_at chain 0
primary_first [] = refl
primary_first (m ∷ chain) = refl

pub last_inside : (chain : List Member) → 0 < length chain → last_place chain < length chain
last_inside chain some = omega (arith, some)
