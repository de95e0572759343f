-- The ring of the members of the first view: behind each node is the next one, and behind the last the first.
use Rattle.std.proofs.Common.{◌≡◌, ◌≢◌, ◌<◌, ◌≤◌, ◌+◌, ℕ, suc, Bool, true, false, length, take, refl, sym, ap, ◌∙◌}
use Rattle.std.proofs.Common.{arith, eq-eqb, ne_eqb}
use Rattle.std.specs.Prelude.{◌-◌, ◌*◌, ◌==◌, ◌&&◌, if◌then◌else◌, nat_eq, nat_lt, position, slice_get, slice_index_or}
use Rattle.std.specs.Prelude.{None, Some}
use Rattle.std.specs.List.{position_or_len}
use Rattle.std.proofs.lemmas.Bool.{eqb-true, eqb-false, lt-ltb}
use Rattle.std.proofs.lemmas.List.{append-nil, take_all}
use Rattle.std.proofs.lemmas.List.Sums.{position_or_len_is}
use Rattle.std.proofs.lemmas.Nat.{div-mul-add}
use Rattle.std.proofs.lemmas.Option.{slice_get-get_or}
use Rattle.sig_core.specs.declared.member.Member.{Member}
use Rattle.sig_core.specs.declared.place.BlockId.TheVariants as block
use Rattle.sig_core.specs.Members.{nobody}
use Rattle.frag_map.specs.Layout.{first_view, members}
use Rattle.frag_map.specs.Replicas.{first_start}
use Rattle.frag_map.specs.Shape.{IsShape}
use Rattle.qmgr_block.specs.declared.ring.Sides.{Sides}
use Rattle.qmgr_block.specs.Ring.{place_behind, place_in_front, sides, sides_at}
use Rattle.qmgr_block.specs.Sets.{members_of, same_member}
use Rattle.world_core.proofs.HostNumbers.{made_at, main_host, members_at, members_length, node_host}
use Rattle.world_core.specs.Hosts.{member_at}
use Rattle.world_core.specs.Start.{Start, made}
use Rattle.calm_laws.proofs.plain_steps.Resting.{ring}

-- a member is itself, and no other
pub same_self : (member : Member) → same_member member member ≡ true
same_self member =
    ap (λ b. b && nat_eq member.start member.start) (eq-eqb member.node member.node refl)
    ∙ eq-eqb member.start member.start refl

-- places of a ring of so many
pub behind_low : (many at : ℕ) → at < many → place_behind many at < many
behind_low many at low = by (at + 1 == many) refl
  where
    by : (b : Bool) → (at + 1 == many) ≡ b → (if b then 0 else at + 1) < many
    by true is = omega arith
    by false is = let off : at + 1 ≢ many = eqb-false (at + 1) many is in omega arith

pub front_low : (many at : ℕ) → at < many → place_in_front many at < many
front_low many at low = by (at == 0) refl
  where
    by : (b : Bool) → (at == 0) ≡ b → (if b then many - 1 else at - 1) < many
    by true is = omega arith
    by false is = omega arith

-- the one behind the one in front
pub behind_of_front : (many at : ℕ) → at < many → place_behind many (place_in_front many at) ≡ at
behind_of_front many at low = by (at == 0) refl
  where
    by : (b : Bool) → (at == 0) ≡ b → place_behind many (if b then many - 1 else at - 1) ≡ at
    by true is =
        let first : at ≡ 0 = eqb-true at 0 is in
        let last : many - 1 + 1 ≡ many = omega arith in
        ap (λ b. if b then 0 else many - 1 + 1) (eq-eqb (many - 1 + 1) many last) ∙ sym first
    by false is =
        let off : at ≢ 0 = eqb-false at 0 is in
        ap (λ b. if b then 0 else at - 1 + 1) (ne_eqb (at - 1 + 1) many (λ same. omega arith)) ∙ omega arith

-- the nodes behind a node and in front of it
abbrev pub behind : Start → ℕ → ℕ
behind start node = place_behind start.shape.nodes (node - 1) + 1

abbrev pub in_front : Start → ℕ → ℕ
in_front start node = place_in_front start.shape.nodes (node - 1) + 1

module _ (start : Start) (shape : IsShape start.shape) where
  everyone : members_of (first_view start.shape.nodes) ≡ members start.shape.nodes
  unfolding members_of
  everyone =
      ap (λ ms. take 8 ms) (append-nil (members start.shape.nodes))
      ∙ take_all 8 (members start.shape.nodes) (omega (arith, members_length start.shape.nodes, shape.nodes_few))

  apart : (node k : ℕ) → node ≢ k + 1 → same_member (first_start node) (first_start (k + 1)) ≡ false
  apart node k off = ap (λ b. b && true) (ne_eqb node (k + 1) off)

  place_of : (n node : ℕ) → 1 ≤ node → node ≤ n
      → position (same_member (first_start node)) (members n) ≡ Some (node - 1)
  place_of n node some low =
      ap (λ i. if nat_lt i (length (members n)) then Some i else None) at
      ∙ ap (λ b. if b then Some (node - 1) else None)
      (lt-ltb (node - 1) (length (members n)) (omega (arith, some, low, members_length n)))
    where
      at : position_or_len (same_member (first_start node)) (members n) ≡ node - 1
      at =
          position_or_len_is (same_member (first_start node)) (members n) (node - 1) nobody
          (omega (arith, low, members_length n))
          (λ k below. ap (same_member (first_start node)) (members_at n k nobody (omega (arith, below, low)))
          ∙ apart node k (λ same. absurd (omega (arith, same, below))))
          (λ there.
          let own : node - 1 + 1 ≡ node = omega (arith, some) in
          ap (same_member (first_start node))
          (members_at n (node - 1) nobody (omega (arith, some, low)) ∙ ap first_start own)
          ∙ same_self (first_start node))

  member_there : (n k : ℕ) → k < n → slice_get (members n) k ≡ Some (first_start (k + 1))
  member_there n k low =
      slice_get-get_or (members n) k nobody (omega (arith, low, members_length n))
      ∙ ap (λ m. Some m) (members_at n k nobody low)

  -- the member of a node's main part
  pub main_member : (node : ℕ) → 1 ≤ node → node ≤ start.shape.nodes
      → member_at (made start) (main_host start node) ≡ first_start node
  main_member node some low =
      let at : main_host start node ≡ suc ((node - 1) * 3 + 0) =
      omega (arith, node_host start (record { node = node; block = block.Qmgr }) some low) in
      let own : node - 1 + 1 ≡ node = omega (arith, some) in
      ap (member_at (made start)) at
      ∙ ap (λ i. slice_index_or (made start) i nobody) (div-mul-add (node - 1) 3 0 (omega arith))
      ∙ made_at start (node - 1) nobody (omega (arith, some, low)) ∙ ap first_start own

  module _ (node : ℕ) (some : 1 ≤ node) (low : node ≤ start.shape.nodes) where
    ring_at : ring start (main_host start node) ≡ sides_at (members start.shape.nodes) (Some (node - 1))
    unfolding sides
    ring_at =
        ap (λ me. sides_at (members_of (first_view start.shape.nodes))
        (position (same_member me) (members_of (first_view start.shape.nodes)))) (main_member node some low)
        ∙ ap (λ ms. sides_at ms (position (same_member (first_start node)) ms)) everyone
        ∙ ap (sides_at (members start.shape.nodes)) (place_of start.shape.nodes node some low)

    -- who is beside it, where there are others
    abbrev sides_by : (many : Bool) → Sides
    sides_by many =
        if many
        then record {
          next = slice_get (members start.shape.nodes) (place_behind start.shape.nodes (node - 1));
          before = slice_get (members start.shape.nodes) (place_in_front start.shape.nodes (node - 1));
        }
        else record { next = None; before = None }

    counted : sides_at (members start.shape.nodes) (Some (node - 1)) ≡ sides_by (nat_lt 1 start.shape.nodes)
    counted =
        ap (λ n. if nat_lt 1 n
        then record {
          next = slice_get (members start.shape.nodes) (place_behind n (node - 1));
          before = slice_get (members start.shape.nodes) (place_in_front n (node - 1));
        }
        else record { next = None; before = None }) (members_length start.shape.nodes)

    pub ring_alone : start.shape.nodes ≡ 1
        → ring start (main_host start node) ≡ record { next = None; before = None }
    ring_alone one = ring_at ∙ counted ∙ ap sides_by (ap (nat_lt 1) one)

    pub ring_many : 2 ≤ start.shape.nodes → ring start (main_host start node)
        ≡ record { next = Some (first_start (behind start node)); before = Some (first_start (in_front start node)) }
    ring_many many =
        let at : node - 1 < start.shape.nodes = omega (arith, some, low) in
        let next = member_there start.shape.nodes (place_behind start.shape.nodes (node - 1))
        (behind_low start.shape.nodes (node - 1) at) in
        let before = member_there start.shape.nodes (place_in_front start.shape.nodes (node - 1))
        (front_low start.shape.nodes (node - 1) at) in
        ring_at ∙ counted ∙ ap sides_by (lt-ltb 1 start.shape.nodes many)
        ∙ ap (λ o. record {
          next = o;
          before = slice_get (members start.shape.nodes) (place_in_front start.shape.nodes (node - 1));
        }) next
        ∙ ap (λ o. record { next = Some (first_start (behind start node)); before = o }) before
