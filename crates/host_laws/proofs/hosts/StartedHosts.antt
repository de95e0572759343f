-- What hosts have as they begin, and which of them have it.
use Rattle.std.proofs.Common.{◌≡◌, ◌≤◌, ◌<◌, ◌⊎◌, inl, inr, ℕ, zero, suc, ◌+◌, ◌*◌, ◌%◌, Bool, true, false, List, []}
use Rattle.std.proofs.Common.{length, refl, ap, sym, ◌∙◌, arith}
use Rattle.std.specs.Prelude.{◌==◌}
use Rattle.std.proofs.lemmas.Bool.{cases_lt, eq-eqb, false≢true}
use Rattle.std.proofs.lemmas.Nat.{mod-mul-add}
use Rattle.sig_core.specs.declared.member.Member.{Member}
use Rattle.sig_core.specs.declared.place.Part.{Part}
use Rattle.sig_core.specs.declared.place.Part.TheVariants.{Main, Tc, Ldm}
use Rattle.sig_core.specs.declared.place.Place.{Place}
use Rattle.sig_core.specs.Place.{epochs}
use Rattle.frag_map.specs.Layout.{Layout, first_layout}
use Rattle.node_core.specs.Blocks.{api_of, dih_of, has_tc, tc_of}
use Rattle.node_core.specs.Fresh.{fresh_part, fresh_shell}
use Rattle.world_core.specs.Hosts.{first_hosts, host_for, hosts, member_at, part_by, receiver, started, tc_host}
use Rattle.world_core.specs.Machine.{after}
use Rattle.world_core.specs.Start.{Start, made}
use Rattle.world_core.specs.Steps.{HostStep}
use Rattle.world_core.proofs.HostNumbers.{IsNodes, beyond_host, host_below, tc_after, tc_found, tc_started}

-- no coordinator has a transaction
part_live : (of : Part) (member : Member) (layout : Layout) (epoch : ℕ) (rows : List (List ℕ × List ℕ))
    → (tc_of (fresh_part of member layout epoch rows)).live ≡ []
unfolding fresh_part
part_live Main member layout epoch rows = refl
part_live Tc member layout epoch rows = refl
part_live Ldm member layout epoch rows = refl

pub none_live : (start : Start) (h : ℕ) → (tc_of (started start h)).live ≡ []
unfolding fresh_shell started
none_live start zero = refl
none_live start (suc h) =
    part_live (part_by (h % 3)) (member_at (made start) (suc h)) (first_layout start.shape) start.epoch start.rows

-- the API has none
part_opened : (of : Part) (member : Member) (layout : Layout) (epoch : ℕ) (rows : List (List ℕ × List ℕ))
    → (api_of (fresh_part of member layout epoch rows)).opened ≡ []
unfolding fresh_part
part_opened Main member layout epoch rows = refl
part_opened Tc member layout epoch rows = refl
part_opened Ldm member layout epoch rows = refl

pub none_opened : (start : Start) (h : ℕ) → (api_of (started start h)).opened ≡ []
unfolding fresh_shell started
none_opened start zero = refl
none_opened start (suc h) =
    part_opened (part_by (h % 3)) (member_at (made start) (suc h)) (first_layout start.shape) start.epoch start.rows

-- all epochs are the first
part_epoch : (of : Part) (member : Member) (layout : Layout) (epoch : ℕ) (rows : List (List ℕ × List ℕ))
    → has_tc (fresh_part of member layout epoch rows) ≡ true
    → (dih_of (fresh_part of member layout epoch rows)).epoch ≡ epoch
unfolding fresh_part
part_epoch Main member layout epoch rows runs = absurd cc
part_epoch Tc member layout epoch rows runs = refl
part_epoch Ldm member layout epoch rows runs = absurd cc

pub started_epoch : (start : Start) (h : ℕ) → has_tc (started start h) ≡ true
    → (dih_of (started start h)).epoch ≡ start.epoch
unfolding fresh_shell started
started_epoch start zero runs = absurd cc
started_epoch start (suc h) runs =
    part_epoch (part_by (h % 3)) (member_at (made start) (suc h)) (first_layout start.shape) start.epoch start.rows runs

-- what is sent goes to a host that is there, or to the first that isn't
to_shell : (start : Start) (to : Place) → to.node < 1 → host_for start to ≡ 0
unfolding receiver
to_shell start to low = by (to.node == 0) refl
  where
    by : (b : Bool) → (to.node == 0) ≡ b → host_for start to ≡ 0
    by true is = rw is refl
    by false is = absurd (let zero : to.node ≡ 0 = omega (arith, low) in false≢true (sym is ∙ eq-eqb to.node 0 zero))

place_host : (start : Start) (to : Place) → (host_for start to < first_hosts start) ⊎ (host_for start to ≡ hosts start)
place_host start to = go (cases_lt to.node 1) (cases_lt start.shape.nodes to.node)
  where
    go : (to.node < 1) ⊎ (1 ≤ to.node) → (start.shape.nodes < to.node) ⊎ (to.node ≤ start.shape.nodes)
        → (host_for start to < first_hosts start) ⊎ (host_for start to ≡ hosts start)
    go (inl low) any = inl (omega (arith, to_shell start to low))
    go (inr some) (inl above) = inr (beyond_host start to above)
    go (inr some) (inr low) = inl (host_below start to some low)

-- the first that isn't there has no coordinator
beyond_part : (start : Start) (member : Member) (left : ℕ) → left ≡ 0
    → has_tc (fresh_part (part_by left) member (first_layout start.shape) start.epoch start.rows) ≡ true → ⊥
unfolding fresh_part
beyond_part start member zero is runs = cc
beyond_part start member (suc left) is runs = omega (arith, is)

beyond_idle : (start : Start) (h : ℕ) → h ≡ hosts start → has_tc (started start h) ≡ true → ⊥
unfolding started
beyond_idle start zero is runs = omega (arith, is)
beyond_idle start (suc k) is runs =
    let last : k ≡ length (made start) * 3 + 0 = omega (arith, is) in
    beyond_part start (member_at (made start) (suc k)) (k % 3)
    (ap (λ n. n % 3) last ∙ mod-mul-add (length (made start)) 3 0 (omega arith)) runs

-- the node of a host's coordinator
abbrev pub node_at : Start → ℕ → ℕ
node_at start h = (tc_of (started start h)).node

tc_node : (start : Start) (node : ℕ) → 1 ≤ node → node ≤ start.shape.nodes → node_at start (tc_host start node) ≡ node
unfolding fresh_part
tc_node start node some low = ap (λ s. (tc_of s).node) (tc_started start node some low)

-- a host with a coordinator that is sent something is the coordinator's of its node
pub tc_home : (start : Start) (h : ℕ) (log : List HostStep) (to : Place) → host_for start to ≡ h
    → has_tc (after start h log) ≡ true → h ≡ tc_host start (node_at start h)
tc_home start h log to sent runs = go (place_host start to)
  where
    own : IsNodes start (tc_host start) h → h ≡ tc_host start (node_at start h)
    own of = of.is ∙ ap (tc_host start) (sym (ap (node_at start) of.is ∙ tc_node start of.node of.some of.low))

    go : (host_for start to < first_hosts start) ⊎ (host_for start to ≡ hosts start)
        → h ≡ tc_host start (node_at start h)
    go (inl low) = own (tc_found start h log (omega (arith, low, sent)) runs)
    go (inr last) = absurd (beyond_idle start h (sym sent ∙ last) (sym (tc_after start h log) ∙ runs))

-- a node's epochs are with its coordinator
pub one_part : (start : Start) (node : ℕ) → host_for start (epochs node) ≡ tc_host start node
unfolding receiver
one_part start node = refl
