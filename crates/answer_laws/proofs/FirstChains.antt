-- The replicas of a key in the layout in which all begin are on nodes that are there.
use Rattle.std.proofs.Common.{◌≡◌, ◌+◌, ◌<◌, ◌≤◌, ℕ, suc, List, [], ◌∷◌, length, true, refl, arith}
use Rattle.std.specs.Prelude.{nat_lt}
use Rattle.std.proofs.lemmas.Bool.Decides.{nat_tests}
use Rattle.sig_core.specs.Chain.{node_at}
use Rattle.sig_core.specs.declared.member.Member.{Member}
use Rattle.sig_core.specs.declared.view.Shape.{Shape}
use Rattle.frag_map.proofs.FirstReplicas.{first_length, first_nodes}
use Rattle.frag_map.specs.Laws.{first_chain}
use Rattle.frag_map.specs.Layout.{chain_of, first_layout}
use Rattle.frag_map.specs.Shape.{IsShape}
use Rattle.host_laws.proofs.rows.Operations.{is_good, is_node, true_and}

pub node_in : (n node : ℕ) → 1 ≤ node → node < n → is_node n node ≡ true
node_in n node some low =
    true_and (nat_lt 0 node) (nat_lt node n) (grind (arith, nat_tests, some)) (grind (arith, nat_tests, low))

-- a chain is of nodes where each of its places is one
good_places : (n : ℕ) (chain : List Member) → ((at : ℕ) → at < length chain → is_node n (node_at chain at) ≡ true)
    → is_good n chain ≡ true
good_places n [] each = refl
good_places n (m ∷ chain) each = true_and (is_node n m.node) (is_good n chain) (each 0 (omega arith))
    (good_places n chain (λ at inside. each (suc at) (omega (arith, inside))))

module _ (shape : Shape) (is : IsShape shape) (key : List ℕ) where
  node_place : (at : ℕ) → at < length (first_chain shape key)
      → is_node (shape.nodes + 1) (node_at (first_chain shape key) at) ≡ true
  node_place at inside = let there = first_nodes shape is key at inside in
      node_in (shape.nodes + 1) (node_at (first_chain shape key) at) there.0 (omega (arith, there.1))

  pub good_chain : is_good (shape.nodes + 1) (chain_of (first_layout shape) key) ≡ true
  good_chain = good_places (shape.nodes + 1) (first_chain shape key) node_place

  pub chain_some : 1 ≤ length (chain_of (first_layout shape) key)
  chain_some = omega (arith, first_length shape is key, is.replicas_some)

  pub first_node : is_node (shape.nodes + 1) (node_at (chain_of (first_layout shape) key) 0) ≡ true
  first_node = node_place 0 (omega (arith, chain_some))
