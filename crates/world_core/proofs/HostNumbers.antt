-- Which host runs what, by its number.
use Rattle.std.proofs.Common.{◌≡◌, ◌≢◌, ◌⊎◌, inl, inr, ℕ, zero, suc, ◌+◌, ◌-◌, ◌*◌, ◌/◌, ◌%◌, ◌<◌, ◌≤◌, List, [], ◌∷◌}
use Rattle.std.proofs.Common.{◌++◌, length, Bool, true, false, refl, ap, sym, ◌∙◌, subst, arith}
use Rattle.std.specs.Prelude.{if◌then◌else◌, ◌==◌, ◌&&◌, filter, nat_lt, position, slice_get, slice_index_or, None}
use Rattle.std.specs.Prelude.{Some}
use Rattle.std.specs.List.{position_or_len}
use Rattle.std.proofs.lemmas.Bool.{cases_lt, eq-eqb, eqb-true, false≢true}
use Rattle.std.proofs.lemmas.Bool.Decides.{nat_tests}
use Rattle.std.proofs.lemmas.List.{append-nil, get_or_append_left, get_or_push, length-append, length_push}
use Rattle.std.proofs.lemmas.List.Elements.{filter-append}
use Rattle.std.proofs.lemmas.List.Sums.{position_or_len_is}
use Rattle.std.proofs.lemmas.Nat.{div-mul-add, mod-mul-add}
use Rattle.run_theory.proofs.Links.{put_each}
use Rattle.run_theory.proofs.Pasts.{each_in, each_past}
use Rattle.run_theory.proofs.Runs.{TakenCases, taken-step, taken_cases}
use Rattle.run_theory.proofs.Runs as theory
use Rattle.run_theory.specs.Links.{IsGiven, sent, taken}
use Rattle.run_theory.specs.Lists.{Each, IsIn, IsPast}
use Rattle.run_theory.specs.Logs.{IsLog}
use Rattle.run_theory.specs.Runs.{AreLogs}
use Rattle.sig_core.specs.declared.member.Member.{Member}
use Rattle.sig_core.specs.declared.outs.Outgoing.{Outgoing}
use Rattle.sig_core.specs.declared.place.BlockId.TheVariants as block
use Rattle.sig_core.specs.declared.place.Part.{Part}
use Rattle.sig_core.specs.declared.place.Part.TheVariants.{Main, Tc, Ldm}
use Rattle.sig_core.specs.declared.place.Place.{Place}
use Rattle.sig_core.specs.declared.signal.Signal.{Signal}
use Rattle.sig_core.specs.Members.{nobody}
use Rattle.sig_core.specs.Part.{part_of}
use Rattle.sig_core.specs.Place.{client}
use Rattle.frag_map.specs.Layout.{first_layout, first_view, members}
use Rattle.frag_map.specs.Replicas.{first_start, is_member}
use Rattle.node_core.proofs.HostCases.{api_stays, rows_stay, tc_stays}
use Rattle.node_core.specs.Blocks.{has_api, has_lqh, has_tc}
use Rattle.node_core.specs.Fresh.{fresh_part, fresh_shell}
use Rattle.node_core.specs.Requests.{is_request}
use Rattle.world_core.specs.Hosts.{first_hosts, first_membership, host_at, host_by, host_for, hosts, member_of}
use Rattle.world_core.specs.Hosts.{number_of, part_by}
use Rattle.world_core.specs.Hosts.{receiver, rows_host, started, tc_host}
use Rattle.world_core.specs.Machine.{after, all_addressed, asked_rightly, counted, machine, sent_count, signals_of}
use Rattle.world_core.specs.Machine.{step_after}
use Rattle.world_core.specs.Start.{Start, late_members, made}
use Rattle.world_core.specs.Steps.{Addressed, HostStep}

-- the nodes that begin a life, in their order
pub members_length : (n : ℕ) → length (members n) ≡ n
members_length zero = refl
members_length (suc n) = omega (arith, length_push (members n) (first_start (n + 1)), members_length n)

pub members_at : (n k : ℕ) (d : Member) → k < n → slice_index_or (members n) k d ≡ first_start (k + 1)
members_at zero k d low = absurd (omega (arith, low))
members_at (suc n) k d low = go (members_at n k d) (cases_lt k n)
  where
    go : (k < n → slice_index_or (members n) k d ≡ first_start (k + 1)) → (k < n) ⊎ (n ≤ k)
        → slice_index_or (members n ++ first_start (n + 1) ∷ []) k d ≡ first_start (k + 1)
    go before (inl below) = get_or_append_left (members n) (first_start (n + 1) ∷ []) d k
        (omega (arith, below, members_length n)) ∙ before below
    go before (inr last) =
        let at : n ≡ k = omega (arith, last, low) in
        get_or_push (members n) (first_start (n + 1)) d k (omega (arith, at, members_length n))
        ∙ ap (λ i. first_start (i + 1)) at

-- they are the first of those that are made
pub made_at : (start : Start) (k : ℕ) (d : Member) → k < start.shape.nodes
    → slice_index_or (made start) k d ≡ first_start (k + 1)
made_at start k d low =
    get_or_append_left (members start.shape.nodes) (late_members start) d k
    (omega (arith, low, members_length start.shape.nodes))
    ∙ members_at start.shape.nodes k d low

pub hosts_low : (start : Start) → first_hosts start ≤ hosts start
hosts_low start =
    omega (arith, length-append (members start.shape.nodes) (late_members start), members_length start.shape.nodes)

-- the place of a node among them
apart_members : (node k : ℕ) → node ≢ k + 1 → is_member (first_start node) (first_start (k + 1)) ≡ false
apart_members node k apart = go (node == k + 1) refl
  where
    go : (b : Bool) → (node == k + 1) ≡ b → (b && true) ≡ false
    go true e = absurd (apart (eqb-true node (k + 1) e))
    go false e = refl

place_of : (start : Start) (node : ℕ) → 1 ≤ node → node ≤ start.shape.nodes
    → position (is_member (first_start node)) (made start) ≡ Some (node - 1)
place_of start node some low = ap (λ i. if nat_lt i (length (made start)) then Some i else None) at
    ∙ go (nat_lt (node - 1) (length (made start))) refl
  where
    few : node - 1 < length (made start)
    few = omega (arith, hosts_low start, some, low)

    at : position_or_len (is_member (first_start node)) (made start) ≡ node - 1
    at =
        position_or_len_is (is_member (first_start node)) (made start) (node - 1) nobody (omega (arith, few))
        (λ k below. ap (is_member (first_start node)) (made_at start k nobody (omega (arith, below, low)))
        ∙ apart_members node k (λ same. absurd (omega (arith, same, below))))
        (λ there.
        let own : node - 1 + 1 ≡ node = omega (arith, some) in
        ap (is_member (first_start node))
        (made_at start (node - 1) nobody (omega (arith, some, low)) ∙ ap first_start own)
        ∙ ap (λ b. b && true) (eq-eqb node node refl))

    go : (b : Bool) → nat_lt (node - 1) (length (made start)) ≡ b
        → (if b then Some (node - 1) else None) ≡ Some (node - 1)
    go true e = refl
    go false e = absurd (grind (arith, nat_tests, e, few))

-- the member of a node in the view in which all begin
abbrev is_node : ℕ → Member → Bool
is_node node member = member.node == node

last_node : (n node : ℕ) (b : Bool) → (n + 1 == node) ≡ b
    → filter (is_node node) (first_start (n + 1) ∷ []) ≡ (if b then first_start (n + 1) ∷ [] else [])
last_node n node b e = ap (λ c. if c then first_start (n + 1) ∷ [] else []) e

none_of : (n node : ℕ) → n < node → filter (is_node node) (members n) ≡ []
none_of zero node above = refl
none_of (suc n) node above =
    filter-append (is_node node) (members n) (first_start (n + 1) ∷ [])
    ∙ ap (λ ms. ms ++ filter (is_node node) (first_start (n + 1) ∷ [])) (none_of n node (omega (arith, above)))
    ∙ last_node n node false (grind (arith, nat_tests, above))

one_of : (n node : ℕ) → 1 ≤ node → node ≤ n → filter (is_node node) (members n) ≡ first_start node ∷ []
one_of zero node some low = absurd (omega (arith, some, low))
one_of (suc n) node some low =
    filter-append (is_node node) (members n) (first_start (n + 1) ∷ []) ∙ go (one_of n node some) (n + 1 == node) refl
  where
    go : (node ≤ n → filter (is_node node) (members n) ≡ first_start node ∷ []) → (b : Bool) → (n + 1 == node) ≡ b
        → filter (is_node node) (members n) ++ filter (is_node node) (first_start (n + 1) ∷ []) ≡ first_start node ∷ []
    go before true e =
        let same : n + 1 ≡ node = eqb-true (n + 1) node e in
        ap (λ ms. ms ++ filter (is_node node) (first_start (n + 1) ∷ [])) (none_of n node (omega (arith, same)))
        ∙ last_node n node true e ∙ ap (λ k. first_start k ∷ []) same
    go before false e =
        let below : node ≤ n = grind (arith, nat_tests, e, low) in
        ap (λ ms. ms ++ filter (is_node node) (first_start (n + 1) ∷ [])) (before below)
        ∙ ap (λ ms. first_start node ∷ ms) (last_node n node false e)

pub the_member : (n node : ℕ) → 1 ≤ node → node ≤ n → member_of (first_view n) node ≡ Some (first_start node)
the_member n node some low = ap (λ ms. slice_get (filter (is_node node) ms) 0) (append-nil (members n))
    ∙ ap (λ ms. slice_get ms 0) (one_of n node some low)

pub no_member : (n node : ℕ) → n < node → member_of (first_view n) node ≡ None
no_member n node above = ap (λ ms. slice_get (filter (is_node node) ms) 0) (append-nil (members n))
    ∙ ap (λ ms. slice_get ms 0) (none_of n node above)

-- parts by their numbers
number_some : (of : Part) → 1 ≤ number_of of
number_some Main = omega arith
number_some Tc = omega arith
number_some Ldm = omega arith

number_few : (of : Part) → number_of of ≤ 3
number_few Main = omega arith
number_few Tc = omega arith
number_few Ldm = omega arith

module _ (start : Start) where
  -- the host of a node's membership
  abbrev pub main_host : ℕ → ℕ
  main_host node = host_for start (record { node = node; block = block.Qmgr })

  -- where what is for a place goes
  pub client_host : host_for start client ≡ 0
  unfolding receiver
  client_host = refl

  by_member : (to : Place) → 1 ≤ to.node
      → host_for start to ≡ host_by (made start) (part_of to.block) (member_of (first_view start.shape.nodes) to.node)
  unfolding receiver
  by_member to some = go (to.node == 0) refl
    where
      go : (b : Bool) → (to.node == 0) ≡ b
          → (if b then 0 else host_by (made start) (part_of to.block)
          (member_of (first_view start.shape.nodes) to.node))
          ≡ host_by (made start) (part_of to.block) (member_of (first_view start.shape.nodes) to.node)
      go true e = absurd (omega (arith, eqb-true to.node 0 e, some))
      go false e = refl

  pub node_host : (to : Place) → 1 ≤ to.node → to.node ≤ start.shape.nodes
      → host_for start to ≡ (to.node - 1) * 3 + number_of (part_of to.block)
  node_host to some low =
      by_member to some
      ∙ ap (host_by (made start) (part_of to.block)) (the_member start.shape.nodes to.node some low)
      ∙ ap (host_at (length (made start) * 3 + 1) (part_of to.block)) (place_of start to.node some low)

  pub beyond_host : (to : Place) → start.shape.nodes < to.node → host_for start to ≡ hosts start
  beyond_host to above =
      by_member to (omega (arith, above))
      ∙ ap (host_by (made start) (part_of to.block)) (no_member start.shape.nodes to.node above)

  pub beyond_first : (to : Place) → start.shape.nodes < to.node → first_hosts start ≤ host_for start to
  beyond_first to above = omega (arith, beyond_host to above, hosts_low start)

  pub host_some : (to : Place) → 1 ≤ to.node → to.node ≤ start.shape.nodes → 1 ≤ host_for start to
  host_some to some low = omega (arith, node_host to some low, number_some (part_of to.block))

  pub host_below : (to : Place) → 1 ≤ to.node → to.node ≤ start.shape.nodes → host_for start to < first_hosts start
  host_below to some low = omega (arith, node_host to some low, number_few (part_of to.block), some, low)

  -- two places of one host are places of one part of one node
  pub same_node : (one other : Place) → 1 ≤ one.node → one.node ≤ start.shape.nodes → 1 ≤ other.node
      → other.node ≤ start.shape.nodes
      → host_for start one ≡ host_for start other → one.node ≡ other.node
  same_node one other some low other_some other_low same =
      omega (
        arith,
        same,
        node_host one some low,
        node_host other other_some other_low,
        number_some (part_of one.block),
        number_few (part_of one.block),
        number_some (part_of other.block),
        number_few (part_of other.block),
        some,
        other_some,
      )

  -- rows of two nodes have two hosts
  pub rows_host_apart : (a b : ℕ) → 1 ≤ a → a ≤ start.shape.nodes → 1 ≤ b → b ≤ start.shape.nodes
      → rows_host start a ≡ rows_host start b → a ≡ b
  rows_host_apart a b some low b_some b_low same = same_node (record { node = a; block = block.Lqh })
      (record { node = b; block = block.Lqh }) some low b_some b_low same

  -- hosts as they begin
  pub started_behind : (k : ℕ) → started start (suc k)
      ≡ fresh_part (part_by (k % 3)) (slice_index_or (made start) (k / 3) nobody) (first_layout start.shape) start.epoch
      start.rows
  unfolding started
  started_behind k = refl

  started_at : (node left : ℕ) → 1 ≤ node → node ≤ start.shape.nodes → left < 3
      → started start (suc ((node - 1) * 3 + left))
      ≡ fresh_part (part_by left) (first_start node) (first_layout start.shape) start.epoch start.rows
  started_at node left some low few =
      let own : node - 1 + 1 ≡ node = omega (arith, some) in
      started_behind ((node - 1) * 3 + left)
      ∙ ap (λ r. fresh_part (part_by r) (slice_index_or (made start) (((node - 1) * 3 + left) / 3) nobody)
      (first_layout start.shape) start.epoch start.rows) (mod-mul-add (node - 1) 3 left few)
      ∙ ap (λ m. fresh_part (part_by left) m (first_layout start.shape) start.epoch start.rows)
      (ap (λ i. slice_index_or (made start) i nobody) (div-mul-add (node - 1) 3 left few)
      ∙ made_at start (node - 1) nobody (omega (arith, some, low)) ∙ ap first_start own)

  pub main_started : (node : ℕ) → 1 ≤ node → node ≤ start.shape.nodes
      → started start (main_host node) ≡ fresh_part Main (first_start node) (first_layout start.shape) start.epoch
      start.rows
  main_started node some low =
      let at : main_host node ≡ suc ((node - 1) * 3 + 0) =
      omega (arith, node_host (record { node = node; block = block.Qmgr }) some low) in
      ap (started start) at ∙ started_at node 0 some low (omega arith)

  pub tc_started : (node : ℕ) → 1 ≤ node → node ≤ start.shape.nodes
      → started start (tc_host start node)
      ≡ fresh_part Tc (first_start node) (first_layout start.shape) start.epoch start.rows
  tc_started node some low =
      let at : tc_host start node ≡ suc ((node - 1) * 3 + 1) =
      omega (arith, node_host (record { node = node; block = block.Tc }) some low) in
      ap (started start) at ∙ started_at node 1 some low (omega arith)

  pub rows_started : (node : ℕ) → 1 ≤ node → node ≤ start.shape.nodes
      → started start (rows_host start node)
      ≡ fresh_part Ldm (first_start node) (first_layout start.shape) start.epoch start.rows
  rows_started node some low =
      let at : rows_host start node ≡ suc ((node - 1) * 3 + 2) =
      omega (arith, node_host (record { node = node; block = block.Lqh }) some low) in
      ap (started start) at ∙ started_at node 2 some low (omega arith)

-- a node whose host this is
pub record IsNodes (start : Start) (number : ℕ → ℕ) (h : ℕ) : Type 0 where
  pub node : ℕ
  pub some : 1 ≤ node
  pub low : node ≤ start.shape.nodes
  pub is : h ≡ number node

-- a host that is there from the beginning is the shell's, or one of the three of a node
pub data HostIs (start : Start) (h : ℕ) : Type 0 where
  is_shell : h ≡ 0 → HostIs start h
  is_main : IsNodes start (main_host start) h → HostIs start h
  is_tc : IsNodes start (tc_host start) h → HostIs start h
  is_rows : IsNodes start (rows_host start) h → HostIs start h

module _ (start : Start) where
  pub host_is : (h : ℕ) → h < first_hosts start → HostIs start h
  host_is zero low = is_shell refl
  host_is (suc k) low = go (k % 3) refl
    where
      few : k / 3 + 1 ≤ start.shape.nodes
      few = omega (arith, low)

      some : 1 ≤ k / 3 + 1
      some = omega arith

      go : (left : ℕ) → k % 3 ≡ left → HostIs start (suc k)
      go zero e = is_main (record {
        node = k / 3 + 1;
        some = some;
        low = few;
        is = omega
            (arith, e, node_host start (record { node = k / 3 + 1; block = block.Qmgr }) some few);
      })
      go (suc zero) e = is_tc (record {
        node = k / 3 + 1;
        some = some;
        low = few;
        is = omega
            (arith, e, node_host start (record { node = k / 3 + 1; block = block.Tc }) some few);
      })
      go (suc (suc zero)) e = is_rows (record {
        node = k / 3 + 1;
        some = some;
        low = few;
        is = omega
            (arith, e, node_host start (record { node = k / 3 + 1; block = block.Lqh }) some few);
      })
      go (suc (suc (suc left))) e = absurd (omega (arith, e))

  -- a host runs the same blocks in every log
  pub api_after : (h : ℕ) (log : List HostStep) → has_api (after start h log) ≡ has_api (started start h)
  api_after h [] = refl
  api_after h (e ∷ log) = api_stays (after start h log) e.step.taken ∙ api_after h log

  pub tc_after : (h : ℕ) (log : List HostStep) → has_tc (after start h log) ≡ has_tc (started start h)
  tc_after h [] = refl
  tc_after h (e ∷ log) = tc_stays (after start h log) e.step.taken ∙ tc_after h log

  pub rows_after : (h : ℕ) (log : List HostStep) → has_lqh (after start h log) ≡ has_lqh (started start h)
  rows_after h [] = refl
  rows_after h (e ∷ log) = rows_stay (after start h log) e.step.taken ∙ rows_after h log

-- which blocks a part runs
part_api : (of : Part) (member : Member) (start : Start)
    → has_api (fresh_part of member (first_layout start.shape) start.epoch start.rows) ≡ false
unfolding fresh_part
part_api Main member start = refl
part_api Tc member start = refl
part_api Ldm member start = refl

abbrev is_tc_part : Part → Bool
is_tc_part Tc = true
is_tc_part _ = false

abbrev is_rows_part : Part → Bool
is_rows_part Ldm = true
is_rows_part _ = false

part_tc : (of : Part) (member : Member) (start : Start)
    → has_tc (fresh_part of member (first_layout start.shape) start.epoch start.rows) ≡ is_tc_part of
unfolding fresh_part
part_tc Main member start = refl
part_tc Tc member start = refl
part_tc Ldm member start = refl

part_rows : (of : Part) (member : Member) (start : Start)
    → has_lqh (fresh_part of member (first_layout start.shape) start.epoch start.rows) ≡ is_rows_part of
unfolding fresh_part
part_rows Main member start = refl
part_rows Tc member start = refl
part_rows Ldm member start = refl

module _ (start : Start) where
  shell_runs : (has_api (started start 0) ≡ true) × (has_tc (started start 0) ≡ false)
      × (has_lqh (started start 0) ≡ false)
  unfolding started fresh_shell
  shell_runs = (refl, refl, refl)

  -- the shell's host runs the API, and no other one does
  pub api_runs : (log : List HostStep) → has_api (after start 0 log) ≡ true
  api_runs log = api_after start 0 log ∙ shell_runs.0

  pub api_found : (h : ℕ) (log : List HostStep) → has_api (after start h log) ≡ true → h ≡ 0
  api_found zero log runs = refl
  api_found (suc k) log runs =
      absurd (false≢true (sym (api_after start (suc k) log ∙ ap has_api (started_behind start k) ∙ part_api
      (part_by (k % 3)) (slice_index_or (made start) (k / 3) nobody) start) ∙ runs))

  -- the coordinating hosts run a coordinator, and no others do
  pub tc_runs : (node : ℕ) (log : List HostStep) → 1 ≤ node → node ≤ start.shape.nodes
      → has_tc (after start (tc_host start node) log) ≡ true
  tc_runs node log some low = tc_after start (tc_host start node) log ∙ ap has_tc (tc_started start node some low)
      ∙ part_tc Tc (first_start node) start

  pub tc_found : (h : ℕ) (log : List HostStep) → h < first_hosts start → has_tc (after start h log) ≡ true
      → IsNodes start (tc_host start) h
  tc_found h log low runs = go (host_is start h low)
    where
      as_begun : has_tc (started start h) ≡ true
      as_begun = sym (tc_after start h log) ∙ runs

      go : HostIs start h → IsNodes start (tc_host start) h
      go (is_shell at) = absurd (false≢true (sym shell_runs.1 ∙ ap (λ n. has_tc (started start n)) (sym at) ∙ as_begun))
      go (is_tc of) = of
      go (is_main of) = absurd (false≢true (sym (ap (λ n. has_tc (started start n)) of.is ∙ ap has_tc
          (main_started start of.node of.some of.low) ∙ part_tc Main (first_start of.node) start) ∙ as_begun))
      go (is_rows of) = absurd (false≢true (sym (ap (λ n. has_tc (started start n)) of.is ∙ ap has_tc
          (rows_started start of.node of.some of.low) ∙ part_tc Ldm (first_start of.node) start) ∙ as_begun))

  -- the hosts of rows run rows, and no others do
  pub rows_run : (node : ℕ) (log : List HostStep) → 1 ≤ node → node ≤ start.shape.nodes
      → has_lqh (after start (rows_host start node) log) ≡ true
  rows_run node log some low = rows_after start (rows_host start node) log
      ∙ ap has_lqh (rows_started start node some low) ∙ part_rows Ldm (first_start node) start

  pub rows_found : (h : ℕ) (log : List HostStep) → h < first_hosts start → has_lqh (after start h log) ≡ true
      → IsNodes start (rows_host start) h
  rows_found h log low runs = go (host_is start h low)
    where
      as_begun : has_lqh (started start h) ≡ true
      as_begun = sym (rows_after start h log) ∙ runs

      go : HostIs start h → IsNodes start (rows_host start) h
      go (is_shell at) =
          absurd (false≢true (sym shell_runs.2 ∙ ap (λ n. has_lqh (started start n)) (sym at) ∙ as_begun))
      go (is_rows of) = of
      go (is_main of) = absurd (false≢true (sym (ap (λ n. has_lqh (started start n)) of.is ∙ ap has_lqh
          (main_started start of.node of.some of.low) ∙ part_rows Main (first_start of.node) start) ∙ as_begun))
      go (is_tc of) = absurd (false≢true (sym (ap (λ n. has_lqh (started start n)) of.is ∙ ap has_lqh
          (tc_started start of.node of.some of.low) ∙ part_rows Tc (first_start of.node) start) ∙ as_begun))

  -- what is sent goes to the host of its place
  abbrev pub IsAddressed : Addressed → Type 0
  IsAddressed x = host_for start x.signal.to ≡ x.to

  all_to : (h stamp : ℕ) (count : ℕ → ℕ) (sends : List Outgoing)
      → Each IsAddressed (all_addressed (first_membership start) h stamp count sends)
  all_to h stamp count [] = tt
  all_to h stamp count (sent ∷ more) =
      (refl, all_to h stamp (counted (receiver (first_membership start) sent.to) count) more)

  pub sent_to : (i j : ℕ) (log : List HostStep) → Each IsAddressed (sent (machine start) i j log)
  sent_to i j [] = tt
  sent_to i j (e ∷ log) =
      put_each (machine start) IsAddressed j (signals_of start i log e) (sent (machine start) i j log)
      (all_to i e.step.stamp (sent_count start i log) (step_after start i log e).effects.sends) (sent_to i j log)

  -- what was taken from a link is an older part of what was sent over it
  pub given_past : (i j : ℕ) (log : List HostStep) (xs : List Addressed) → IsGiven (machine start) i j log xs
      → IsPast xs (sent (machine start) i j log)
  given_past i j log xs (inl past) = past
  given_past i j [] xs (inr closing) = absurd closing
  given_past i j (e ∷ log) xs (inr closing) = absurd (false≢true closing.stops)

  asked_at : (h stamp : ℕ) (e : HostStep) (b : Bool) → is_request e.step.taken.body ≡ b
      → asked_rightly (first_membership start) b h stamp e.step.taken → b ≡ true → host_for start e.step.taken.to ≡ h
  asked_at h stamp e false is rightly asks = absurd (false≢true asks)
  asked_at h stamp e true is rightly asks =
      ap (λ (x : Signal). host_for start x.to) rightly.is ∙ client_host start ∙ sym rightly.shell

  rest_to : (i : ℕ) (e : HostStep) (log : List HostStep) → Each IsAddressed (taken (machine start) i (e ∷ log))
      → Each IsAddressed (taken (machine start) i log)
  rest_to i e log all = go (taken_cases (machine start) i e log)
    where
      go : TakenCases (machine start) i e log → Each IsAddressed (taken (machine start) i log)
      go (theory.took plain from is) = (subst (Each IsAddressed) is all).1
      go (theory.same is) = subst (Each IsAddressed) is all

  steps_to : (h : ℕ) (log : List HostStep) → IsLog (machine start) h log
      → ((i : ℕ) → Each IsAddressed (taken (machine start) i log))
      → Each (λ e. host_for start e.step.taken.to ≡ h) log
  steps_to h [] local all = tt
  steps_to h (e ∷ log) local all =
      (go (is_request e.step.taken.body) refl, steps_to h log local.1 (λ i. rest_to i e log (all i)))
    where
      go : (b : Bool) → is_request e.step.taken.body ≡ b → host_for start e.step.taken.to ≡ h
      go true asks = asked_at h local.0.fits.asked_at e (is_request e.step.taken.body) refl local.0.fits.asked asks
      go false plain =
          (subst (Each IsAddressed) (taken-step (machine start) e.step.taken.from.0 e log plain refl)
          (all e.step.taken.from.0)).0 ∙ local.0.at

  -- each step is at the host of its signal's place
  pub addressed_rightly : (logs : ℕ → List HostStep) → AreLogs (machine start) logs → (h : ℕ)
      → Each (λ e. host_for start e.step.taken.to ≡ h) (logs h)
  addressed_rightly logs right h =
      steps_to h (logs h) (right.local h)
      (λ i. each_past IsAddressed (given_past i h (logs i) (taken (machine start) i (logs h)) (right.linked i h))
      (sent_to i h (logs i)))

  pub addressed_at : (logs : ℕ → List HostStep) → AreLogs (machine start) logs → (h : ℕ) (e : HostStep)
      → IsIn e (logs h) → host_for start e.step.taken.to ≡ h
  addressed_at logs right h e in_log =
      each_in (λ d. host_for start d.step.taken.to ≡ h) e (logs h) (addressed_rightly logs right h) in_log
