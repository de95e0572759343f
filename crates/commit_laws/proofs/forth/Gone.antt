-- A step of the host of a member's coordinator says of commits what is so behind it.
use Rattle.std.proofs.Common.{◌≡◌, ◌∙◌, ◌||◌, true, List, [], ◌∷◌, sym, ap, subst}
use Rattle.std.proofs.lemmas.Bool.{true≢false}
use Rattle.run_theory.specs.Lists.{IsIn}
use Rattle.sig_core.specs.declared.member.Member.{Member}
use Rattle.sig_core.specs.declared.member.TxId.{TxId}
use Rattle.sig_core.specs.declared.outs.Outgoing.{Outgoing}
use Rattle.sig_core.specs.declared.place.Part.TheVariants as parts
use Rattle.frag_map.specs.Layout.{first_layout}
use Rattle.tc_block.specs.Phases.{is_decided}
use Rattle.tc_views.specs.Coordinator.{fresh_coordinator}
use Rattle.tc_views.specs.State.{CoordinatorState}
use Rattle.node_views.specs.declared.parts.Parts.{Parts}
use Rattle.node_views.specs.declared.parts.Parts.TheVariants.{Ldm, Main, Shell, Tc}
use Rattle.node_views.specs.WellFormed.{is_well_formed}
use Rattle.world_core.specs.Start.{NobodyStarts, Start, made}
use Rattle.world_core.specs.Steps.{HostStep}
use Rattle.world_views.specs.Machine.{after, step_after}
use Rattle.view_laws.specs.Runs.{view_after}
use Rattle.moment_laws.specs.PartSteps.{TcDoes}
use Rattle.moment_laws.specs.Places.{tc_of}
use Rattle.moment_laws.proofs.MomentHosts.{part_some}
use Rattle.moment_laws.proofs.PartKinds.{tc_after}
use Rattle.outcome_laws.specs.Counts.{coordinator_member}
use Rattle.outcome_laws.specs.Known.{RowsKnow, TakeoverKnows}
use Rattle.request_laws.specs.Blocks.{coordinator_after, coordinator_in}
use Rattle.request_laws.specs.Ways.{entry_of, has_gone_forth, is_at, is_sent, tells_commit}
use Rattle.request_laws.proofs.phases.AlongLogs.{IsRun, coordinator_first, coordinator_is, runs_tc}
use Rattle.request_laws.proofs.phases.GoneWays.{gone_here, gone_stays, gone_told}
use Rattle.commit_laws.proofs.forth.Coordinator.{GoesForth, ShowsForth, before_it, behind_it, tells_it}
use Rattle.commit_laws.proofs.forth.Speaks.{Anyone, AreSpoken, Of, Speaks}
use Rattle.commit_laws.proofs.forth.Tc.{Says, tc_says}

-- what takeovers and rows know of commits
abbrev pub PartsKnow : (TxId → Type 0) → Parts → Type 0
PartsKnow F (Shell p) = Unit {0}
PartsKnow F (Main p) = Unit {0}
PartsKnow F (Tc p) = TakeoverKnows (Of F) Anyone p.takeover
PartsKnow F (Ldm p) = RowsKnow (Of F) Anyone p.replica

module _ (start : Start) (member : Member) (there : IsIn member (made start)) where
  -- whoever is decided has gone forth
  counted : NobodyStarts start → (tx : TxId) (log : List HostStep)
      → is_at is_decided (entry_of (coordinator_after start member log) tx) ≡ true
      → has_gone_forth start member tx log ≡ true
  counted nobody tx [] decided =
      absurd (true≢false (sym decided
      ∙ ap (λ (s : CoordinatorState). is_at is_decided (entry_of s tx)) (coordinator_first start member there nobody)))
  counted nobody tx (e ∷ log) decided =
      ap (λ b. b
      || (is_sent (tells_commit tx) (step_after start (tc_of start member) log e).effects.sends
      || has_gone_forth start member tx log)) decided

  module _ (log : List HostStep) (e : HostStep) where
    abbrev sends : List Outgoing
    sends = (step_after start (tc_of start member) log e).effects.sends

    gone : NobodyStarts start → (tx : TxId)
        → ShowsForth (coordinator_after start member log) (coordinator_after start member (e ∷ log)) tx sends
        → has_gone_forth start member tx (e ∷ log) ≡ true
    gone nobody tx (before_it decided) =
        gone_stays start member tx is_decided (tells_commit tx) log e (counted nobody tx log decided)
    gone nobody tx (behind_it decided) = gone_here start member tx is_decided (tells_commit tx) log e decided
    gone nobody tx (tells_it sent) = gone_told start member tx is_decided (tells_commit tx) log e sent

    -- what the host knows and says behind its step
    pub record SaysForth (F A : TxId → Type 0) : Type 0 where
      pub knowing : PartsKnow F (after start (tc_of start member) (e ∷ log)).parts
      pub speaking : AreSpoken F A sends

    pub tc_forth : NobodyStarts start → (F A : TxId → Type 0)
        → (is_well_formed start.shape e.step.taken ≡ true → Speaks F A e.step.taken.body)
        → PartsKnow F (after start (tc_of start member) log).parts
        → ((tx : TxId) → coordinator_member tx ≡ member → has_gone_forth start member tx (e ∷ log) ≡ true → F tx)
        → SaysForth F A
    tc_forth nobody F A spoken knows so =
        record { knowing = subst (PartsKnow F) (sym did.is) says.knowing; speaking = says.speaking }
      where
        run : IsRun start member there log
        run = runs_tc start member there nobody log

        did : TcDoes start.shape run.own (view_after start (tc_of start member) log) e.step.taken
            (after start (tc_of start member) (e ∷ log)).parts (view_after start (tc_of start member) (e ∷ log)) sends
        did = tc_after start nobody (tc_of start member) log e (part_some start parts.Tc member) run.own run.runs

        now_is : coordinator_after start member (e ∷ log) ≡ did.own.coordinator
        now_is = ap (coordinator_in (fresh_coordinator member.node member.start (first_layout start.shape))) did.is

        shown : (tx : TxId) → GoesForth member run.own.coordinator did.own.coordinator tx sends → F tx
        shown tx goes =
            so tx goes.own
            (gone nobody tx
            (subst (λ (s : CoordinatorState). ShowsForth s (coordinator_after start member (e ∷ log)) tx sends)
            (sym (coordinator_is start member there log run))
            (subst (λ (s : CoordinatorState). ShowsForth run.own.coordinator s tx sends) (sym now_is) goes.shows)))

        says : Says F A member start.shape run.own (view_after start (tc_of start member) log) e.step.taken spoken
            run.fits (subst (PartsKnow F) run.runs knows) did.own sends
        says =
            tc_says F A member start.shape run.own (view_after start (tc_of start member) log) e.step.taken spoken
            run.fits (subst (PartsKnow F) run.runs knows) _ _ sends did shown
