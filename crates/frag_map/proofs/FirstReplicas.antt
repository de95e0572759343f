-- The replicas of a key in the first view of a cluster: the nodes of the key's group, each once.
use Rattle.std.proofs.Common.{◌≡◌, ◌≤◌, ◌<◌, ◌⊎◌, inl, inr, ℕ, zero, suc, ◌+◌, ◌-◌, ◌*◌, ◌/◌, ◌%◌, Bool, true, false}
use Rattle.std.proofs.Common.{List, [], ◌∷◌, ◌++◌, length, get_or, refl, ap, sym, subst, ◌∙◌, arith}
use Rattle.std.specs.Prelude.{◌&&◌, ◌||◌, None, filter, is_some, not}
use Rattle.std.specs.List.{All, list_any}
use Rattle.std.proofs.lemmas.Bool.{cases_lt, eq-eqb, eqb-true}
use Rattle.std.proofs.lemmas.List.{append-nil, get_or_append_left, get_or_default, get_or_push, length_push, take_all}
use Rattle.std.proofs.lemmas.List.Elements.{filter-append}
use Rattle.std.proofs.lemmas.List.Folds.{list_any-append}
use Rattle.std.proofs.lemmas.Nat.{div-add-mod', div_below, mod_below}
use Rattle.std.proofs.lemmas.Option.{slice_get-get_or}
use Rattle.sig_core.specs.declared.member.Member.{Member}
use Rattle.sig_core.specs.declared.view.Shape.{Shape}
use Rattle.sig_core.specs.Chain.{node_at, node_of}
use Rattle.sig_core.specs.Members.{nobody}
use Rattle.frag_map.specs.Fragment.{frag_of, group_of_fragment, group_of_key}
use Rattle.frag_map.specs.Groups.{is_manned, is_viable, lost_from, lost_group}
use Rattle.frag_map.specs.Laws.{HasReplica, first_chain}
use Rattle.frag_map.specs.Layout.{Layout, chain_of, first_layout, first_view, holds, members}
use Rattle.frag_map.specs.Replicas.{first_start, in_turn, is_later_of_group, is_member, is_of_group, node_in_turn}
use Rattle.frag_map.specs.Replicas.{replicas_of}
use Rattle.frag_map.specs.Shape.{IsShape, group_of, groups}
use Rattle.frag_map.proofs.AroundLemmas.{Reaches, around_all, around_apart}
use Rattle.frag_map.proofs.ListLemmas.{take-few}
use Rattle.frag_map.proofs.ShapeLemmas.{fragment_group_below, group_of-seat, groups-all, seat_below}

or_right : (one other : Bool) → other ≡ true → (one || other) ≡ true
or_right true other is = refl
or_right false other is = is

-- a node of the cluster that passes a test is among its first members
any_members : (test : Member → Bool) (n node : ℕ) → 1 ≤ node → node ≤ n
    → test (first_start node) ≡ true → list_any test (members n) ≡ true
any_members test zero node some few is = absurd (omega (arith, some, few))
any_members test (suc n) node some few is =
    list_any-append test (members n) (first_start (n + 1) ∷ [])
    ∙ by (cases_lt n node) (λ before. any_members test n node some before is)
  where
    by : (n < node) ⊎ (node ≤ n) → (node ≤ n → list_any test (members n) ≡ true)
        → (list_any test (members n) || list_any test (first_start (n + 1) ∷ [])) ≡ true
    by (inl last) within =
        let same : node ≡ n + 1 = omega (arith, last, few) in
        or_right (list_any test (members n)) _ (rw (subst (λ at. test (first_start at) ≡ true) same is) refl)
    by (inr before) within = rw (within before) refl

and_false : (b : Bool) → (b && false) ≡ false
and_false true = refl
and_false false = refl

-- none of them started later
none_later : (shape : Shape) (group n : ℕ) → filter (is_later_of_group shape group) (members n) ≡ []
none_later shape group zero = refl
none_later shape group (suc n) =
    filter-append (is_later_of_group shape group) (members n) (first_start (n + 1) ∷ [])
    ∙ rw (none_later shape group n) (rw (and_false (is_of_group shape group (first_start (n + 1)))) refl)

-- the nodes of the first n turns of a fragment
abbrev in_order : Shape → ℕ → ℕ → List Member
in_order shape fragment zero = []
in_order shape fragment (suc turn) = in_order shape fragment turn ++ first_start (node_in_turn shape fragment turn) ∷ []

length-order : (shape : Shape) (fragment n : ℕ) → length (in_order shape fragment n) ≡ n
length-order shape fragment zero = refl
length-order shape fragment (suc n) =
    let member = first_start (node_in_turn shape fragment n) in
    omega (arith, length_push (in_order shape fragment n) member, length-order shape fragment n)

get-order : (shape : Shape) (fragment n at : ℕ) → at < n
    → get_or (in_order shape fragment n) at nobody ≡ first_start (node_in_turn shape fragment at)
get-order shape fragment zero at low = absurd (omega (arith, low))
get-order shape fragment (suc n) at low = by (cases_lt at n) (λ before. get-order shape fragment n at before)
  where
    long : length (in_order shape fragment n) ≡ n
    long = length-order shape fragment n

    by : (at < n) ⊎ (n ≤ at)
        → (at < n → get_or (in_order shape fragment n) at nobody ≡ first_start (node_in_turn shape fragment at))
        → get_or (in_order shape fragment (suc n)) at nobody ≡ first_start (node_in_turn shape fragment at)
    by (inl before) within =
        get_or_append_left (in_order shape fragment n) _ nobody at (omega (arith, before, long)) ∙ within before
    by (inr last) within =
        let same : n ≡ at = omega (arith, last, low) in
        get_or_push (in_order shape fragment n) (first_start (node_in_turn shape fragment n)) nobody at
        (omega (arith, long, same))
        ∙ ap (λ turn. first_start (node_in_turn shape fragment turn)) same

-- the seat of the node in turn
abbrev seat_in_turn : Shape → ℕ → ℕ → ℕ
seat_in_turn shape fragment turn = (turn + fragment / groups shape) % shape.replicas

seat_low : (shape : Shape) → IsShape shape → (fragment turn : ℕ) → seat_in_turn shape fragment turn < shape.replicas
seat_low shape is fragment turn = mod_below (turn + fragment / groups shape) shape.replicas is.replicas_some

-- it is a node of the cluster
turn_below : (shape : Shape) → IsShape shape → (fragment turn : ℕ) → node_in_turn shape fragment turn ≤ shape.nodes
turn_below shape is fragment turn =
    seat_below shape is (group_of_fragment shape fragment) (seat_in_turn shape fragment turn)
    (fragment_group_below shape is fragment) (seat_low shape is fragment turn)

turn_some : (shape : Shape) (fragment turn : ℕ) → 1 ≤ node_in_turn shape fragment turn
turn_some shape fragment turn = omega arith

-- each node in turn is a full member
turn_there : (shape : Shape) → IsShape shape → (fragment turn : ℕ)
    → list_any (is_member (first_start (node_in_turn shape fragment turn))) (members shape.nodes) ≡ true
turn_there shape is fragment turn =
    let node = node_in_turn shape fragment turn in
    any_members (is_member (first_start node)) shape.nodes node
    (turn_some shape fragment turn) (turn_below shape is fragment turn) (rw (eq-eqb node node refl) refl)

all_in_turn : (shape : Shape) → IsShape shape → (fragment n : ℕ)
    → in_turn shape (first_view shape.nodes) fragment n ≡ in_order shape fragment n
all_in_turn shape is fragment zero = refl
all_in_turn shape is fragment (suc n) =
    rw (turn_there shape is fragment n)
    (ap (λ xs. xs ++ first_start (node_in_turn shape fragment n) ∷ []) (all_in_turn shape is fragment n))

-- the chain is the nodes of all turns
chain_is : (shape : Shape) → IsShape shape → (key : List ℕ)
    → chain_of (first_layout shape) key ≡ in_order shape (frag_of shape key) shape.replicas
unfolding chain_of replicas_of
chain_is shape is key =
    let fragment = frag_of shape key in
    let order = in_order shape fragment shape.replicas in
    let none = none_later shape (group_of_fragment shape fragment) shape.nodes in
    rw (all_in_turn shape is fragment shape.replicas, none, append-nil order, append-nil order)
    (take_all 8 order (omega (arith, length-order shape fragment shape.replicas, is.replicas_few)))

-- each replica of a row once
pub first_length : (shape : Shape) → IsShape shape → (key : List ℕ) → length (first_chain shape key) ≡ shape.replicas
first_length shape is key = ap length (chain_is shape is key) ∙ length-order shape (frag_of shape key) shape.replicas

-- the node at a place is the one whose turn it is
node_is : (shape : Shape) → IsShape shape → (key : List ℕ) (at : ℕ) → at < length (first_chain shape key)
    → node_at (first_chain shape key) at ≡ node_in_turn shape (frag_of shape key) at
node_is shape is key at inside =
    let fragment = frag_of shape key in
    let order = in_order shape fragment shape.replicas in
    let low : at < shape.replicas = omega (arith, inside, first_length shape is key) in
    ap (λ chain. node_at chain at) (chain_is shape is key)
    ∙ ap node_of (slice_get-get_or order at nobody (omega (arith, low, length-order shape fragment shape.replicas)))
    ∙ ap (λ (member : Member). member.node) (get-order shape fragment shape.replicas at low)

-- each replica is on a node of the cluster
pub first_nodes : (shape : Shape) → IsShape shape → (key : List ℕ) (at : ℕ) → at < length (first_chain shape key)
    → (1 ≤ node_at (first_chain shape key) at) × (node_at (first_chain shape key) at ≤ shape.nodes)
first_nodes shape is key at inside =
    rw (node_is shape is key at inside)
    (turn_some shape (frag_of shape key) at, turn_below shape is (frag_of shape key) at)

-- no two are on one node
pub first_apart : (shape : Shape) → IsShape shape → (key : List ℕ) (one other : ℕ)
    → one < length (first_chain shape key) → other < length (first_chain shape key)
    → node_at (first_chain shape key) one ≡ node_at (first_chain shape key) other → one ≡ other
first_apart shape is key one other one_inside other_inside same =
    let fragment = frag_of shape key in
    let turns : node_in_turn shape fragment one ≡ node_in_turn shape fragment other =
    sym (node_is shape is key one one_inside) ∙ same ∙ node_is shape is key other other_inside in
    let seats : seat_in_turn shape fragment one ≡ seat_in_turn shape fragment other = omega (arith, turns) in
    let long = first_length shape is key in
    around_apart shape.replicas (fragment / groups shape) one other
    (omega (arith, one_inside, long)) (omega (arith, other_inside, long)) seats

-- each is of the group that has the key
pub first_group : (shape : Shape) → IsShape shape → (key : List ℕ) (at : ℕ) → at < length (first_chain shape key)
    → holds shape (node_at (first_chain shape key) at) key ≡ true
first_group shape is key at inside =
    let fragment = frag_of shape key in
    eq-eqb _ _
    (ap (group_of shape) (node_is shape is key at inside)
    ∙ group_of-seat shape (group_of_fragment shape fragment) (seat_in_turn shape fragment at)
    (seat_low shape is fragment at))

-- all nodes of that group have a replica
pub first_all : (shape : Shape) → IsShape shape → (key : List ℕ) (node : ℕ) → 1 ≤ node → node ≤ shape.nodes
    → holds shape node key ≡ true → HasReplica (first_chain shape key) node
first_all shape is key node some few has =
    let fragment = frag_of shape key in
    let turned = fragment / groups shape in
    let seat = (node - 1) % shape.replicas in
    let reached : Reaches shape.replicas turned seat =
    around_all shape.replicas turned seat (mod_below (node - 1) shape.replicas is.replicas_some) in
    let inside : reached.step < length (first_chain shape key) =
    subst (λ long. reached.step < long) (sym (first_length shape is key)) reached.inside in
    let group : group_of shape node ≡ group_of_key shape key = eqb-true _ _ has in
    let parts : group_of shape node * shape.replicas + seat ≡ node - 1 = div-add-mod' (node - 1) shape.replicas in
    let there : node_in_turn shape fragment reached.step ≡ node =
    rw (reached.comes, ← group) (omega (arith, parts, some)) in
    record { at = reached.step; inside = inside; is = node_is shape is key reached.step inside ∙ there }

-- each group has a full member: the first of its nodes
manned : (shape : Shape) → IsShape shape → (group : ℕ) → group < groups shape
    → is_manned shape (first_view shape.nodes) group ≡ true
manned shape is group low =
    let node = group * shape.replicas + 0 + 1 in
    any_members (is_of_group shape group) shape.nodes node (omega arith)
    (seat_below shape is group 0 low is.replicas_some)
    (eq-eqb _ group (group_of-seat shape group 0 is.replicas_some))

none_lost : (shape : Shape) → IsShape shape → (group n : ℕ) → group + n ≤ groups shape
    → lost_from shape (first_view shape.nodes) group n ≡ None
none_lost shape is group zero fits = refl
none_lost shape is group (suc n) fits =
    rw (manned shape is group (omega (arith, fits))) (none_lost shape is (group + 1) n (omega (arith, fits)))

-- no group is lost
pub first_viable : (shape : Shape) → IsShape shape → is_viable shape (first_view shape.nodes) ≡ true
unfolding lost_group
first_viable shape is = ap (λ lost. not (is_some lost)) (none_lost shape is 0 (groups shape) (omega arith))

-- a key has no more replicas than a view has members
pub few_replicas : (layout : Layout) (key : List ℕ) → length (chain_of layout key) ≤ 8
unfolding chain_of replicas_of
few_replicas layout key = take-few 8 _
