-- The first nodes of groups.
use Rattle.std.proofs.Common.{◌≡◌, ℕ, zero, suc, ◌+◌, ◌-◌, ◌*◌, ◌/◌, ◌≤◌, ◌<◌, arith}

-- all nodes of a group are nodes of the cluster
pub group_fits : (nodes replicas group : ℕ) → 1 ≤ replicas → replicas ≤ 4 → group < nodes / replicas
    → group * replicas + replicas ≤ nodes
group_fits nodes zero group some few below = absurd (omega (arith, some))
group_fits nodes (suc zero) group some few below = omega (arith, below)
group_fits nodes (suc (suc zero)) group some few below = omega (arith, below)
group_fits nodes (suc (suc (suc zero))) group some few below = omega (arith, below)
group_fits nodes (suc (suc (suc (suc zero)))) group some few below = omega (arith, below)
group_fits nodes (suc (suc (suc (suc (suc more))))) group some few below = absurd (omega (arith, few))

-- the first node of a group is of that group
pub first_of_group : (replicas group : ℕ) → 1 ≤ replicas → replicas ≤ 4
    → (group * replicas + 1 - 1) / replicas ≡ group
first_of_group zero group some few = absurd (omega (arith, some))
first_of_group (suc zero) group some few = omega arith
first_of_group (suc (suc zero)) group some few = omega arith
first_of_group (suc (suc (suc zero))) group some few = omega arith
first_of_group (suc (suc (suc (suc zero)))) group some few = omega arith
first_of_group (suc (suc (suc (suc (suc more))))) group some few = absurd (omega (arith, few))

-- and so is each behind it, up to the first of the next
pub node_of_group : (replicas group node : ℕ) → 1 ≤ replicas → replicas ≤ 4 → group * replicas + 1 ≤ node
    → node < group * replicas + 1 + replicas → (node - 1) / replicas ≡ group
node_of_group zero group node some few from below = absurd (omega (arith, some))
node_of_group (suc zero) group node some few from below = omega (arith, from, below)
node_of_group (suc (suc zero)) group node some few from below = omega (arith, from, below)
node_of_group (suc (suc (suc zero))) group node some few from below = omega (arith, from, below)
node_of_group (suc (suc (suc (suc zero)))) group node some few from below = omega (arith, from, below)
node_of_group (suc (suc (suc (suc (suc more))))) group node some few from below = absurd (omega (arith, few))

pub ruleset seats = (group_fits)
