-- The hosts of a member that was made: where they stand among all, whose they are, and how they begin.
use Rattle.std.proofs.Common.{◌≡◌, ◌≤◌, ◌<◌, ◌+◌, ◌-◌, ◌*◌, ◌/◌, ◌%◌, ℕ, zero, suc, List, length, false, refl, sym, ap}
use Rattle.std.proofs.Common.{subst, ◌∙◌, arith}
use Rattle.std.proofs.lemmas.Bool.{true≢false}
use Rattle.std.proofs.lemmas.Nat.{div-mul-add, mod-mul-add}
use Rattle.std.specs.Prelude.{slice_index_or, Option, None, Some, position}
use Rattle.frag_map.specs.Replicas.{first_start, is_member}
use Rattle.run_theory.specs.Lists.{IsIn}
use Rattle.sig_core.specs.declared.member.Member.{Member}
use Rattle.sig_core.specs.declared.place.BlockId.TheVariants as block
use Rattle.sig_core.specs.declared.place.Part.{Part}
use Rattle.sig_core.specs.declared.place.Part.TheVariants.{Ldm, Tc}
use Rattle.sig_core.specs.Members.{nobody}
use Rattle.node_views.specs.declared.parts.Parts.{Parts}
use Rattle.node_views.specs.declared.parts.Parts.TheVariants as part
use Rattle.world_core.proofs.MadeFirst.{begins_made, hosts_first, made_begins}
use Rattle.world_core.proofs.HostNumbers.{hosts_low, made_at}
use Rattle.world_core.specs.Hosts.{host_at, host_of, hosts, member_at, part_by}
use Rattle.world_core.specs.Start.{NobodyStarts, Start, made}
use Rattle.world_core.specs.Steps.{HostStep}
use Rattle.world_views.specs.Hosts.{part_started, started}
use Rattle.world_views.specs.Machine.{after}
use Rattle.view_laws.specs.Votes.{main_of}
use Rattle.view_laws.proofs.eras.Deciders.{still}
use Rattle.view_laws.proofs.eras.Parts.{has_coordinator}
use Rattle.view_laws.proofs.fences.Hosts.{any_found, block_host, number_some}
use Rattle.view_laws.proofs.follow.Hosts.{first_of}
use Rattle.world_views.proofs.AllBegin.{started_behind}
use Rattle.view_laws.proofs.runs.FirstMembers.{first_in, made_tested, node_low, node_some}
use Rattle.moment_laws.specs.Places.{ldm_of, tc_of}

-- none is the shell's
pub part_some : (start : Start) (part : Part) (member : Member) → 1 ≤ host_of (made start) part member
part_some start part member = by (position (is_member member) (made start))
  where
    absent : ℕ
    absent = length (made start) * 3 + 1

    by : (o : Option ℕ) → 1 ≤ host_at absent part o
    by None = omega arith
    by (Some place) = let some = number_some part in omega (arith, some)

-- a member with a host among them was made
pub host_made : (start : Start) (part : Part) (member : Member) → host_of (made start) part member < hosts start
    → IsIn member (made start)
host_made start part member low = by (position (is_member member) (made start)) refl low
  where
    by : (o : Option ℕ) → position (is_member member) (made start) ≡ o
        → host_at (length (made start) * 3 + 1) part o < hosts start → IsIn member (made start)
    by None e low = absurd (omega (arith, low))
    by (Some i) e low = made_tested start member (any_found (is_member member) (made start) i e)

module _ (start : Start) (none_starts : NobodyStarts start) (me : Member) (there : IsIn me (made start)) where
  abbrev host_by_number : ℕ → ℕ
  host_by_number k = suc ((me.node - 1) * 3 + k)

  some : 1 ≤ me.node
  some = node_some start none_starts me there

  low : me.node ≤ start.shape.nodes
  low = node_low start none_starts me there

  pub tc_number : tc_of start me ≡ host_by_number 1
  tc_number = let is = block_host start none_starts me there block.Tc in omega (arith, is)

  pub ldm_number : ldm_of start me ≡ host_by_number 2
  ldm_number = let is = block_host start none_starts me there block.Lqh in omega (arith, is)

  pub main_number : main_of start me ≡ host_by_number 0
  main_number = let is = block_host start none_starts me there block.Qmgr in omega (arith, is)

  -- each is of the member
  at_number : (k : ℕ) → k < 3 → member_at (made start) (host_by_number k) ≡ me
  at_number k few =
      let first = first_of start.shape.nodes me (made_begins start none_starts me there) in
      let own : me.node - 1 + 1 ≡ me.node = omega (arith, some) in
      let node : me.node ≡ first.node = ap (λ (m : Member). m.node) first.is in
      ap (λ i. slice_index_or (made start) i nobody) (div-mul-add (me.node - 1) 3 k few)
      ∙ made_at start (me.node - 1) nobody (omega (arith, some, low))
      ∙ ap first_start (own ∙ node)
      ∙ sym first.is

  pub tc_member : member_at (made start) (tc_of start me) ≡ me
  tc_member = ap (member_at (made start)) tc_number ∙ at_number 1 (omega arith)

  pub ldm_member : member_at (made start) (ldm_of start me) ≡ me
  ldm_member = ap (member_at (made start)) ldm_number ∙ at_number 2 (omega arith)

  -- and they are apart
  pub tc_low : tc_of start me < hosts start
  tc_low = let is = tc_number in let few = low in let node = some in
      omega (arith, is, few, node, hosts_low start)

  pub main_low : main_of start me < hosts start
  main_low = let is = main_number in let few = low in let node = some in
      omega (arith, is, few, node, hosts_low start)

  pub tc_apart : tc_of start me ≡ ldm_of start me → ⊥
  tc_apart same = let one = tc_number in let other = ldm_number in omega (arith, same, one, other)

  -- the host of the epochs begins as the coordinating part of the member
  pub tc_started : started start (tc_of start me) ≡ part_started start Tc me
  tc_started =
      ap (started start) tc_number
      ∙ started_behind start none_starts ((me.node - 1) * 3 + 1)
      ∙ ap (λ k. part_started start (part_by k) (member_at (made start) (host_by_number 1)))
      (mod-mul-add (me.node - 1) 3 1 (omega arith))
      ∙ ap (part_started start Tc) (at_number 1 (omega arith))

-- a host without a coordinator
abbrev pub HasNoTc : Parts → Type 0
HasNoTc (part.Tc p) = ⊥
HasNoTc parts = Unit {0}

-- one that begins so never has one
pub never_tc : (start : Start) (h : ℕ) (log : List HostStep) → HasNoTc (started start h).parts
    → HasNoTc (after start h log).parts
never_tc start h log none = lacks (after start h log).parts (still start h log ∙ has_none (started start h).parts none)
  where
    has_none : (parts : Parts) → HasNoTc parts → has_coordinator parts ≡ false
    has_none (part.Shell p) none = refl
    has_none (part.Main p) none = refl
    has_none (part.Ldm p) none = refl
    has_none (part.Tc p) none = absurd none

    lacks : (parts : Parts) → has_coordinator parts ≡ false → HasNoTc parts
    lacks (part.Shell p) none = tt
    lacks (part.Main p) none = tt
    lacks (part.Ldm p) none = tt
    lacks (part.Tc p) none = absurd (true≢false none)

-- a host of a part that isn't a coordinating one, or that of a member
pub data TcHost (start : Start) (h : ℕ) : Type 0 where
  of_tc : (me : Member) → IsIn me (made start) → h ≡ tc_of start me → TcHost start h
  of_none : HasNoTc (started start h).parts → TcHost start h

pub tc_host_is : (start : Start) (none_starts : NobodyStarts start) (h : ℕ) → h < hosts start → TcHost start h
unfolding started
tc_host_is start none_starts zero low = of_none tt
tc_host_is start none_starts (suc k) low = by (k % 3) refl
  where
    without : (left : ℕ) → k % 3 ≡ left
        → HasNoTc (part_started start (part_by left) (member_at (made start) (suc k))).parts → TcHost start (suc k)
    without left e none =
        of_none (subst (λ s. HasNoTc s.parts) (sym (started_behind start none_starts k))
        (subst (λ (left : ℕ). HasNoTc (part_started start (part_by left) (member_at (made start) (suc k))).parts)
        (sym e)
        none))

    by : (left : ℕ) → k % 3 ≡ left → TcHost start (suc k)
    by zero e = without 0 e tt
    by (suc zero) e =
        let enough : 1 ≤ k / 3 + 1 = omega arith in
        let few : k / 3 + 1 ≤ start.shape.nodes = omega (arith, low, hosts_first start none_starts) in
        let there = begins_made start _ (first_in start.shape.nodes (k / 3 + 1) enough few) in
        let is = tc_number start none_starts (first_start (k / 3 + 1)) there in
        of_tc (first_start (k / 3 + 1)) there (omega (arith, e, is))
    by (suc (suc left)) e = without (suc (suc left)) e tt

-- the part that runs its rows
pub ldm_started : (start : Start) (none_starts : NobodyStarts start) (me : Member) → IsIn me (made start)
    → started start (ldm_of start me) ≡ part_started start Ldm me
ldm_started start none_starts me there =
    ap (started start) (ldm_number start none_starts me there)
    ∙ started_behind start none_starts ((me.node - 1) * 3 + 2)
    ∙ ap (λ k. part_started start (part_by k) (member_at (made start) (suc ((me.node - 1) * 3 + 2))))
    (mod-mul-add (me.node - 1) 3 2 (omega arith))
    ∙ ap (part_started start Ldm) (at_number start none_starts me there 2 (omega arith))
