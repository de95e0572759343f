-- A host runs the membership of a member, or the client's side, or coordinates or runs rows for a member.
use Rattle.std.proofs.Common.{◌≡◌, ◌<◌, ◌+◌, ◌%◌, ◌/◌, ◌⊎◌, ℕ, zero, suc, inl, inr, refl, arith}
use Rattle.std.proofs.lemmas.Nat.{mod_below}
use Rattle.frag_map.specs.Replicas.{first_start}
use Rattle.run_theory.specs.Lists.{IsIn}
use Rattle.sig_core.specs.declared.member.Member.{Member}
use Rattle.world_core.proofs.MadeFirst.{begins_made, hosts_first}
use Rattle.world_core.specs.Hosts.{hosts}
use Rattle.world_core.specs.Start.{NobodyStarts, Start, made}
use Rattle.view_laws.specs.Votes.{main_of}
use Rattle.view_laws.proofs.runs.FirstMembers.{first_in}
use Rattle.moment_laws.specs.Places.{ldm_of, tc_of}
use Rattle.moment_laws.proofs.MomentHosts.{ldm_number, main_number, tc_number}

-- it runs a membership
pub record MainHost (start : Start) (h : ℕ) : Type 0 where
  pub me : Member
  pub there : IsIn me (made start)
  pub at : h ≡ main_of start me

-- it runs none
pub data OtherHost (start : Start) (h : ℕ) : Type 0 where
  is_client : h ≡ 0 → OtherHost start h
  coordinates : (me : Member) → IsIn me (made start) → h ≡ tc_of start me → OtherHost start h
  keeps_rows : (me : Member) → IsIn me (made start) → h ≡ ldm_of start me → OtherHost start h

pub host_is : (start : Start) (nobody : NobodyStarts start) (h : ℕ) → h < hosts start
    → MainHost start h ⊎ OtherHost start h
host_is start nobody zero low = inr (is_client refl)
host_is start nobody (suc k) low = by (k % 3) refl
  where
    there : IsIn (first_start (k / 3 + 1)) (made start)
    there = begins_made start _
        (first_in start.shape.nodes (k / 3 + 1) (omega arith)
        (omega (arith, low, hosts_first start nobody)))

    by : (left : ℕ) → k % 3 ≡ left → MainHost start (suc k) ⊎ OtherHost start (suc k)
    by zero e =
        let is = main_number start nobody (first_start (k / 3 + 1)) there in
        inl (record { me = first_start (k / 3 + 1); there = there; at = omega (arith, e, is) })
    by (suc zero) e =
        let is = tc_number start nobody (first_start (k / 3 + 1)) there in
        inr (coordinates (first_start (k / 3 + 1)) there (omega (arith, e, is)))
    by (suc (suc left)) e =
        let is = ldm_number start nobody (first_start (k / 3 + 1)) there in
        let few : k % 3 < 3 = mod_below k 3 (omega arith) in
        inr (keeps_rows (first_start (k / 3 + 1)) there (omega (arith, e, is, few)))
