-- The hosts of rows are apart, and none of them coordinates.
use Rattle.std.proofs.Common.{◌≡◌, ◌≢◌, ◌<◌, arith}
use Rattle.run_theory.specs.Lists.{IsIn}
use Rattle.sig_core.specs.declared.member.Member.{Member}
use Rattle.world_core.proofs.HostNumbers.{hosts_low}
use Rattle.world_core.specs.Hosts.{hosts}
use Rattle.world_core.specs.Start.{NobodyStarts, Start, made}
use Rattle.view_laws.proofs.runs.FirstMembers.{made_same, node_low, node_some}
use Rattle.moment_laws.specs.Places.{ldm_of, tc_of}
use Rattle.moment_laws.proofs.MomentHosts.{ldm_number, tc_number}

module _ (start : Start) (nobody : NobodyStarts start) where
  pub ldm_low : (me : Member) → IsIn me (made start) → ldm_of start me < hosts start
  ldm_low me there =
      let is = ldm_number start nobody me there in
      let few = node_low start nobody me there in
      let some = node_some start nobody me there in
      omega (arith, is, few, some, hosts_low start)

  module _ (one other : Member) (there : IsIn one (made start)) (there_too : IsIn other (made start)) where
    pub ldm_no_tc : ldm_of start one ≢ tc_of start other
    ldm_no_tc same =
        let rows = ldm_number start nobody one there in
        let coordinator = tc_number start nobody other there_too in
        omega (arith, same, rows, coordinator)

    pub ldm_same : ldm_of start one ≡ ldm_of start other → one ≡ other
    ldm_same same =
        let here = ldm_number start nobody one there in
        let elsewhere = ldm_number start nobody other there_too in
        let some = node_some start nobody one there in
        let some_too = node_some start nobody other there_too in
        made_same start nobody one other there there_too (omega (arith, same, here, elsewhere, some, some_too))
