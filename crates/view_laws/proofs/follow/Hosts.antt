-- The host of a member's membership follows its events, and the shell's host those of the arbitrator.
use Rattle.std.proofs.Common.{◌≡◌, ◌⊎◌, ◌+◌, ◌-◌, ◌*◌, ◌/◌, ◌≤◌, ℕ, zero, suc, Bool, true, false, List, [], ◌∷◌}
use Rattle.std.proofs.Common.{◌++◌, refl, ap, sym, ◌∙◌, arith, inl, inr}
use Rattle.std.proofs.lemmas.Bool.{eqb-true}
use Rattle.std.proofs.lemmas.Nat.{div-mul-add, mod-mul-add}
use Rattle.std.specs.Prelude.{if◌then◌else◌, ◌==◌, slice_index_or, Some}
use Rattle.frag_map.specs.Layout.{first_layout, first_view, members}
use Rattle.frag_map.specs.Replicas.{first_start}
use Rattle.run_theory.specs.Lists.{IsIn}
use Rattle.sig_core.specs.declared.member.Member.{Member}
use Rattle.sig_core.specs.declared.place.BlockId.TheVariants as block
use Rattle.sig_core.specs.declared.place.Part.TheVariants.{Main}
use Rattle.sig_core.specs.Members.{nobody}
use Rattle.node_views.specs.declared.host_body.HostBody as hosts
use Rattle.node_views.specs.Fresh.{fresh_main}
use Rattle.world_core.proofs.MadeFirst.{made_begins}
use Rattle.world_core.proofs.HostNumbers.{made_at, node_host, the_member}
use Rattle.world_core.specs.Hosts.{host_by, host_for, member_of, part_by, receiver}
use Rattle.world_core.specs.Start.{NobodyStarts, Start, made}
use Rattle.world_views.specs.Hosts.{part_started, started}
use Rattle.world_views.proofs.AllBegin.{started_behind}
use Rattle.view_laws.specs.HostEvents.{events_of, is_arbiter, is_membership}
use Rattle.view_laws.specs.Votes.{ArbitersFollowTheirSignals, HostsFollowTheirEvents, main_of}
use Rattle.view_laws.proofs.follow.Seen.{arbiter_is_seen, arbiter_seen, known_view, membership_is_seen, membership_seen}
use Rattle.view_laws.proofs.follow.Seen.{some_arbiter, some_membership, to_arbiter, to_membership, to_view}
use Rattle.view_laws.proofs.follow.Seen.{view_is_seen, view_seen}
use Rattle.view_laws.proofs.follow.Walk.{along, log_goes}

-- a member that began the life is the first start of a node
pub record IsFirst (nodes : ℕ) (member : Member) : Type 0 where
  pub node : ℕ
  pub some : 1 ≤ node
  pub low : node ≤ nodes
  pub is : member ≡ first_start node

in_behind : (x y : Member) (xs : List Member) → IsIn x (xs ++ y ∷ []) → IsIn x xs ⊎ (x ≡ y)
in_behind x y [] (inl same) = inr same
in_behind x y [] (inr none) = absurd none
in_behind x y (z ∷ xs) (inl same) = inl (inl same)
in_behind x y (z ∷ xs) (inr behind) = by (in_behind x y xs behind)
  where
    by : IsIn x xs ⊎ (x ≡ y) → IsIn x (z ∷ xs) ⊎ (x ≡ y)
    by (inl there) = inl (inr there)
    by (inr same) = inr same

pub first_of : (nodes : ℕ) (member : Member) → IsIn member (members nodes) → IsFirst nodes member
first_of zero member there = absurd there
first_of (suc n) member there = by (first_of n member) (in_behind member (first_start (n + 1)) (members n) there)
  where
    by : (IsIn member (members n) → IsFirst n member) → IsIn member (members n) ⊎ (member ≡ first_start (n + 1))
        → IsFirst (suc n) member
    by before (inl below) =
        let first = before below in
        record { node = first.node; some = first.some; low = omega (arith, first.low); is = first.is }
    by before (inr same) = record { node = n + 1; some = omega arith; low = omega arith; is = same }

module _ (start : Start) where
  -- its main host has the first of its three numbers
  main_by : (node : ℕ) → 1 ≤ node
      → host_for start (record { node = node; block = block.Qmgr })
      ≡ host_by (made start) Main (member_of (first_view start.shape.nodes) node)
  unfolding receiver
  main_by node some = by (node == 0) refl
    where
      by : (b : Bool) → (node == 0) ≡ b
          → (if b then 0 else host_by (made start) Main (member_of (first_view start.shape.nodes) node))
          ≡ host_by (made start) Main (member_of (first_view start.shape.nodes) node)
      by true e = absurd (omega (arith, eqb-true node 0 e, some))
      by false e = refl

  pub main_number : (node : ℕ) → 1 ≤ node → node ≤ start.shape.nodes
      → main_of start (first_start node) ≡ suc ((node - 1) * 3 + 0)
  main_number node some low =
      let by_place : host_for start (record { node = node; block = block.Qmgr }) ≡ (node - 1) * 3 + 1 =
      node_host start (record { node = node; block = block.Qmgr }) some low in
      let by_member : host_for start (record { node = node; block = block.Qmgr }) ≡ main_of start (first_start node) =
      main_by node some ∙ ap (host_by (made start) Main) (the_member start.shape.nodes node some low) in
      omega (arith, by_place, by_member)

  -- the main host begins as the main part of its member
  node_started : NobodyStarts start → (node : ℕ) → 1 ≤ node → node ≤ start.shape.nodes
      → started start (main_of start (first_start node))
      ≡ fresh_main (first_start node) (first_layout start.shape) start.epoch
  node_started none_starts node some low =
      let own : node - 1 + 1 ≡ node = omega (arith, some) in
      ap (started start) (main_number node some low)
      ∙ started_behind start none_starts ((node - 1) * 3 + 0)
      ∙ ap (λ k. part_started start (part_by k) (slice_index_or (made start) (((node - 1) * 3 + 0) / 3) nobody))
      (mod-mul-add (node - 1) 3 0 (omega arith))
      ∙ ap (part_started start Main)
      (ap (λ i. slice_index_or (made start) i nobody) (div-mul-add (node - 1) 3 0 (omega arith))
      ∙ made_at start (node - 1) nobody (omega (arith, some, low)) ∙ ap first_start own)

  pub main_started : NobodyStarts start → (member : Member) → IsIn member (made start)
      → started start (main_of start member) ≡ fresh_main member (first_layout start.shape) start.epoch
  main_started none_starts member there =
      let first = first_of start.shape.nodes member (made_begins start none_starts member there) in
      ap (λ m. started start (main_of start m)) first.is
      ∙ node_started none_starts first.node first.some first.low
      ∙ sym (ap (λ m. fresh_main m (first_layout start.shape) start.epoch) first.is)

  shell_started : arbiter_seen (started start 0) ≡ Some (record { number = 1; members = members start.shape.nodes })
  unfolding started
  shell_started = refl

pub hosts_follow : HostsFollowTheirEvents
hosts_follow start none_starts member log there =
    let h = main_of start member in
    let layout = first_layout start.shape in
    let events = events_of is_membership start h log in
    let begins = main_started start none_starts member there in
    record {
      state =
          log_goes is_membership membership_seen to_membership membership_is_seen start h log
          ∙ ap (λ (s : hosts.HostBody). along to_membership (membership_seen s) events) begins
          ∙ some_membership member layout events;
      view =
          log_goes is_membership view_seen to_view (view_is_seen is_membership) start h log
          ∙ ap (λ (s : hosts.HostBody). along to_view (view_seen s) events) begins
          ∙ sym (known_view member layout events);
    }

pub arbiters_follow : ArbitersFollowTheirSignals
arbiters_follow start log =
    let events = events_of is_arbiter start 0 log in
    log_goes is_arbiter arbiter_seen to_arbiter arbiter_is_seen start 0 log
    ∙ ap (λ a. along to_arbiter a events) (shell_started start)
    ∙ some_arbiter (members start.shape.nodes) events
