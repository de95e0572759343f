-- What the rows of a member tell of epochs that they saved is what their log has noted.
use Rattle.std.proofs.Common.{ℕ, ap, arith}
use Rattle.run_theory.specs.Lists.{IsIn}
use Rattle.sig_core.specs.declared.mark.Mark.TheVariants.{Stopped}
use Rattle.sig_core.specs.declared.member.Member.{Member}
use Rattle.sig_core.specs.declared.place.Part.TheVariants.{Ldm}
use Rattle.node_views.specs.Words.{parts_marks}
use Rattle.world_core.proofs.HostNumbers.{hosts_low}
use Rattle.world_core.specs.Start.{NobodyStarts, Start, made}
use Rattle.view_laws.proofs.runs.FirstMembers.{node_low, node_some}
use Rattle.moment_laws.specs.Places.{ldm_of}
use Rattle.moment_laws.proofs.MomentHosts.{ldm_number, part_some}
use Rattle.request_laws.proofs.routes.Layouts.{runs_ldm}
use Rattle.saved_laws.proofs.behind.RowSteps.{host_rises}
use Rattle.restart_laws.specs.Told.{TellsNotedRows}
use Rattle.restart_laws.proofs.telling.Facts.{TellsByLog}

module _ (start : Start) (nobody : NobodyStarts start) (member : Member) (there : IsIn member (made start)) where
  abbrev h : ℕ
  h = ldm_of start member

  -- the host tells by its log
  pub rows_tell_by_log : TellsByLog start h (TellsNotedRows start member)
  rows_tell_by_log = record {
    some = part_some start Ldm member;
    low =
        let is = ldm_number start nobody member there in
        let node = node_some start nobody member there in
        let few = node_low start nobody member there in
        omega (arith, is, node, few, hosts_low start);
    grows = λ log e body tells epoch told.
        let before = tells epoch told in
        let rises = (host_rises start nobody member there log e).rises in
        omega (arith, before, rises);
    sends = λ log e runs. (host_rises start nobody member there log e).told;
    before = λ log e. (host_rises start nobody member there log e).but_last;
    closings = λ log cause epoch told. absurd told;
    stops_none = λ log cause.
        ap (λ parts. parts_marks parts (Stopped cause)) (runs_ldm start nobody member there log).runs;
  }
