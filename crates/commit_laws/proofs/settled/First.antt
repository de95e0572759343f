-- Before the first event all stands: nothing was sent, no takeover is at work, and no transaction has begun.
use Rattle.std.proofs.Common.{◌≡◌, ◌∙◌, ℕ, List, [], sym, ap, subst}
use Rattle.std.specs.Prelude.{None, Some}
use Rattle.std.specs.List.{slice_get}
use Rattle.frag_map.specs.Layout.{first_layout}
use Rattle.run_theory.specs.Lists.{Each, IsIn}
use Rattle.sig_core.specs.declared.member.Member.{Member}
use Rattle.sig_core.specs.declared.member.TxId.{TxId}
use Rattle.takeover_block.specs.declared.gathered.Gathered.{Gathered}
use Rattle.takeover_block.specs.State.{resting}
use Rattle.tc_block.specs.declared.transaction.Transaction.{Transaction}
use Rattle.host_laws.specs.Live.{of_live}
use Rattle.node_views.specs.declared.host_body.HostBody as node
use Rattle.world_core.specs.Start.{NobodyStarts, Start, made}
use Rattle.world_core.specs.Steps.{Addressed, HostStep}
use Rattle.moment_laws.specs.Moments.{IsMoment, current, logs_of}
use Rattle.moment_laws.proofs.MomentHosts.{tc_started}
use Rattle.moment_laws.proofs.MomentViews.{moment_installed}
use Rattle.outcome_laws.specs.Counts.{coordinator_member}
use Rattle.request_laws.specs.Blocks.{takeover_in}
use Rattle.request_laws.proofs.routes.Idle.{none_first}
use Rattle.commit_laws.specs.Going.{own_live}
use Rattle.commit_laws.specs.Parts.{IsHale, PartsStand}
use Rattle.commit_laws.specs.Speaks.{AreSpokenTruly}
use Rattle.commit_laws.specs.Takeovers.{FirstIs, IsRuled, TakeoverStands, TakeoversStand, takeover_at}
use Rattle.commit_laws.specs.Together.{AllStand}
use Rattle.commit_laws.specs.Transit.{AreInTransit}
use Rattle.commit_laws.proofs.commits.First.{first_commits}
use Rattle.commit_laws.proofs.drive.Once.{leader_made}

module _ (start : Start) (nobody : NobodyStarts start) where
  abbrev none : ℕ → List HostStep
  none = logs_of start []

  first_spoken : AreSpokenTruly start (logs_of start [])
  first_spoken = record { aborts_said = λ i j. tt; commits_said = λ i j. tt }

  module _ (member : Member) (there : IsIn member (made start)) where
    none_gathered : (takeover_at start none member).gathered ≡ []
    none_gathered =
        ap (λ (s : node.HostBody). (takeover_in (resting member.node (first_layout start.shape)) s.parts).gathered)
        (tc_started start nobody member there)

    each_gathered : (P : Gathered → Type 0) → Each P (takeover_at start none member).gathered
    each_gathered P = subst (Each P) (sym none_gathered) tt

    abbrev FirstIsRuled : List Gathered → Type 0
    FirstIsRuled gathered =
        FirstIs start none (IsRuled start none (takeover_at start none member).stage) (slice_get gathered 0)

    first_takeover : TakeoverStands start none member
    first_takeover = record {
      orphans = each_gathered _;
      told = λ now. each_gathered _;
      ruled = λ now. subst FirstIsRuled (sym none_gathered) tt;
      whole = λ now. each_gathered _;
      left = λ now. each_gathered _;
    }

  first_takeovers : TakeoversStand start (logs_of start [])
  first_takeovers = record { each = first_takeover; reports = λ i j. tt }

  module _ (all : ℕ → List HostStep) (moment : IsMoment start all []) where
    -- nobody goes on who hasn't begun
    not_hale : (tx : TxId) (t : Transaction) → IsHale start none tx t → ⊥
    not_hale tx t hale =
        let there : IsIn (coordinator_member tx) (made start) =
        leader_made start all [] moment (current start none) (moment_installed start all [] moment) tx hale.full in
        let off : own_live start none tx ≡ None =
        ap (of_live tx) (none_first start (coordinator_member tx) there moment.cluster.nobody) in
        let both : None ≡ Some t = sym off ∙ hale.there in
        cc

    first_parts : (xs : List Addressed) → AreInTransit start [] xs → PartsStand start (logs_of start []) xs
    first_parts xs nothing = record {
      signals = λ tx t hale. absurd (not_hale tx t hale);
      waits = λ tx t hale. absurd (not_hale tx t hale);
      rests = λ tx t hale. absurd (not_hale tx t hale);
    }

    first_stands : AllStand start []
    first_stands = record {
      spoken = first_spoken;
      answered = λ i j. tt;
      takeovers = first_takeovers;
      commits = first_commits start all moment;
      parts = first_parts;
    }

pub first_all : (start : Start) (all : ℕ → List HostStep) → IsMoment start all [] → AllStand start []
first_all start all moment = first_stands start moment.cluster.nobody all moment
