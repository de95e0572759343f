-- The nodes of groups: those of a group stand one behind the other, and a viable view has one of each.
use Rattle.std.proofs.Common.{◌≡◌, ◌≤◌, ◌<◌, ◌+◌, ◌-◌, ◌*◌, ◌/◌, ◌%◌, ◌==◌, ◌∙◌, ℕ, true, List, refl, sym, ap}
use Rattle.std.proofs.Common.{subst, arith}
use Rattle.std.proofs.lemmas.Bool.{eqb-true, eq-eqb}
use Rattle.std.proofs.lemmas.Nat.{div-add-mod', div-mul-add, div_below, row_fits}
use Rattle.frag_map.specs.Groups.{is_viable}
use Rattle.frag_map.specs.Replicas.{is_of_group}
use Rattle.frag_map.specs.Shape.{IsShape, group_of, groups}
use Rattle.gcp_master.specs.Orders.{has_node}
use Rattle.run_theory.specs.Lists.{IsIn}
use Rattle.sig_core.specs.declared.member.Member.{Member}
use Rattle.sig_core.specs.declared.view.Shape.{Shape}
use Rattle.sig_core.specs.declared.view.View.{View}
use Rattle.request_laws.proofs.routes.ChainsStay.{any_in}
use Rattle.view_laws.proofs.ballots.Found.{found}
use Rattle.view_laws.proofs.ballots.SharedByGroups.{viable_manned}

-- a node of a group, by its place
pub node_group : (shape : Shape) (group node : ℕ) → group * shape.replicas + 1 ≤ node
    → node < group * shape.replicas + 1 + shape.replicas → group_of shape node ≡ group
node_group shape group node from below =
    let place : node - 1 ≡ group * shape.replicas + (node - 1 - group * shape.replicas) = omega (arith, from) in
    ap (λ n. n / shape.replicas) place
    ∙ div-mul-add group shape.replicas (node - 1 - group * shape.replicas) (omega (arith, from, below))

module _ (shape : Shape) (is : IsShape shape) where
  all_nodes : groups shape * shape.replicas ≡ shape.nodes
  all_nodes = omega (arith, div-add-mod' shape.nodes shape.replicas, is.even)

  -- the nodes of each group are there
  pub group_low : (group : ℕ) → group < groups shape → group * shape.replicas + shape.replicas ≤ shape.nodes
  group_low group below =
      subst (λ n. group * shape.replicas + shape.replicas ≤ n) all_nodes
      (row_fits group shape.replicas (groups shape) shape.replicas below (omega arith))

  -- and each node has a group
  pub node_low_group : (node : ℕ) → 1 ≤ node → node ≤ shape.nodes → group_of shape node < groups shape
  node_low_group node some low =
      div_below (node - 1) shape.replicas (groups shape) is.replicas_some
      (subst (λ n. node - 1 < n) (sym all_nodes) (omega (arith, some, low)))

  -- there is a group
  pub first_below : 0 < groups shape
  first_below = grind (arith, all_nodes, is.nodes_some)

  -- a full member of a group
  pub record IsOfGroup (group : ℕ) (view : View) : Type 0 where
    pub member : Member
    pub full : IsIn member view.full
    pub group_is : group_of shape member.node ≡ group

  pub has_full : (view : View) → is_viable shape view ≡ true → (group : ℕ) → group < groups shape
      → IsOfGroup group view
  has_full view viable group below =
      let one = found (is_of_group shape group) view.full (viable_manned shape view viable group below) in
      record {
        member = one.member;
        full = one.there;
        group_is = eqb-true (group_of shape one.member.node) group one.passes;
      }

-- its node stands among those of the group
pub group_from : (shape : Shape) (group node : ℕ) → 1 ≤ node → group_of shape node ≡ group
    → group * shape.replicas + 1 ≤ node
group_from shape group node some is =
    let parts : (node - 1) / shape.replicas * shape.replicas + (node - 1) % shape.replicas ≡ node - 1 =
    div-add-mod' (node - 1) shape.replicas in
    let own : group * shape.replicas + (node - 1) % shape.replicas ≡ node - 1 =
    subst (λ g. g * shape.replicas + (node - 1) % shape.replicas ≡ node - 1) is parts in
    omega (arith, own, some)

pub group_below : (shape : Shape) (group node : ℕ) → 1 ≤ shape.replicas → 1 ≤ node → group_of shape node ≡ group
    → node < group * shape.replicas + 1 + shape.replicas
group_below shape group node replicas some is =
    let parts : (node - 1) / shape.replicas * shape.replicas + (node - 1) % shape.replicas ≡ node - 1 =
    div-add-mod' (node - 1) shape.replicas in
    let low : (node - 1) % shape.replicas < shape.replicas = omega (arith, replicas) in
    let own : group * shape.replicas + (node - 1) % shape.replicas ≡ node - 1 =
    subst (λ g. g * shape.replicas + (node - 1) % shape.replicas ≡ node - 1) is parts in
    omega (arith, own, low, some)

-- a member's node is among those of the members
pub node_in : (member : Member) (members : List Member) → IsIn member members → has_node member.node members ≡ true
node_in member members there =
    any_in (λ (m : Member). m.node == member.node) member members there (eq-eqb member.node member.node refl)
