-- What stands of a coordinator says of its transactions which are given up, and which have nothing unanswered.
use Rattle.std.proofs.Common.{◌≡◌, true, false, List, [], ◌∷◌, inl, inr, sym, ap, ◌∙◌, subst, ℕ}
use Rattle.std.proofs.lemmas.Bool.{or_left, true≢false}
use Rattle.std.specs.Prelude.{if◌then◌else◌, None, Some}
use Rattle.run_theory.specs.Lists.{Each, IsIn}
use Rattle.run_theory.proofs.Pasts.{each_from, each_in, each_map}
use Rattle.sig_core.specs.declared.member.Member.{Member}
use Rattle.sig_core.specs.declared.member.TxId.{TxId}
use Rattle.sig_core.specs.Same.{same_tx}
use Rattle.sig_core.proofs.Keys.{same_tx-self}
use Rattle.frag_map.specs.Layout.{first_layout}
use Rattle.host_laws.specs.Live.{of_live}
use Rattle.tc_block.specs.Phases.{is_aborting, is_decided}
use Rattle.tc_block.specs.declared.phase.Phase.{Phase}
use Rattle.tc_block.specs.declared.phase.Phase.TheVariants.{Aborting, Committing, Completing, Open, Verifying}
use Rattle.tc_block.specs.declared.transaction.Transaction.{Transaction}
use Rattle.tc_block.proofs.EachTurn.{may_ask}
use Rattle.tc_block.proofs.LiveSplit.{Live}
use Rattle.tc_views.specs.Coordinator.{fresh_coordinator}
use Rattle.tc_views.specs.Laws.{AreOnce}
use Rattle.tc_views.specs.State.{CoordinatorState}
use Rattle.node_views.specs.declared.host_body.HostBody as hosts
use Rattle.world_core.specs.Start.{NobodyStarts, Start, made}
use Rattle.world_core.specs.Steps.{HostStep}
use Rattle.moment_laws.specs.Places.{tc_of}
use Rattle.moment_laws.proofs.MomentHosts.{tc_started}
use Rattle.outcome_laws.specs.Counts.{coordinator_member}
use Rattle.request_laws.specs.Blocks.{coordinator_after, coordinator_in}
use Rattle.request_laws.specs.Phases.{CoordinatorStands, SaysIn, SaysOf}
use Rattle.request_laws.specs.Routed.{IsGivenUp}
use Rattle.request_laws.specs.Ways.{entry_of, has_gone_back, is_at}
use Rattle.request_laws.proofs.routes.Coordinators.{AreAnswered}
use Rattle.request_laws.proofs.routes.Turns.{IsAnsweredIn, IsGiven}

-- where none stands twice, who stands there is found
pub found_in : (live : Live) → AreOnce live → (e : TxId × Transaction) → IsIn e live → of_live e.0 live ≡ Some e.1
found_in [] once e inside = absurd inside
found_in (one ∷ live) once e (inl same) =
    ap (λ b. if b then Some one.1 else of_live e.0 live)
    (ap (λ (x : TxId × Transaction). same_tx one.0 x.0) same ∙ same_tx-self one.0)
    ∙ ap (λ (x : TxId × Transaction). Some x.1) (sym same)
found_in (one ∷ live) once e (inr inside) =
    ap (λ b. if b then Some one.1 else of_live e.0 live)
    (each_in (λ (x : TxId × Transaction). same_tx one.0 x.0 ≡ false) e live once.0 inside)
    ∙ found_in live once.1 e inside

module _ (start : Start) (member : Member) (there : IsIn member (made start)) where
  -- as its life begins a coordinator has nobody
  pub none_first : NobodyStarts start → (coordinator_after start member []).tc.live ≡ []
  none_first nobody =
      ap
      (λ (s : hosts.HostBody).
      (coordinator_in (fresh_coordinator member.node member.start (first_layout start.shape)) s.parts).tc.live)
      (tc_started start nobody member there)

  -- who is aborted has gone back
  aborted_back : NobodyStarts start → (log : List HostStep) → AreOnce (coordinator_after start member log).tc.live
      → (e : TxId × Transaction) → IsIn e (coordinator_after start member log).tc.live → is_aborting e.1.phase ≡ true
      → has_gone_back start member e.0 log ≡ true
  aborted_back nobody [] once e inside back = absurd (subst (IsIn e) (none_first nobody) inside)
  aborted_back nobody (f ∷ log) once e inside back =
      or_left (is_at is_aborting (entry_of (coordinator_after start member (f ∷ log)) e.0)) _
      (ap (is_at is_aborting) (found_in (coordinator_after start member (f ∷ log)).tc.live once e inside) ∙ back)

  module _ (logs : ℕ → List HostStep) (stands : CoordinatorStands start member logs) where
    abbrev log : List HostStep
    log = logs (tc_of start member)

    abbrev s : CoordinatorState
    s = coordinator_after start member log

    not_back : (tx : TxId) (t : Transaction) (phase : Phase) → SaysIn start member log tx t phase
        → is_decided phase ≡ true → has_gone_back start member tx log ≡ false
    not_back tx t Open says is = absurd (true≢false (sym is))
    not_back tx t Verifying says is = absurd (true≢false (sym is))
    not_back tx t (Committing epoch awaited) says is = says.1.0
    not_back tx t (Completing epoch awaited) says is = says.1.0
    not_back tx t (Aborting why verifying awaited) says is = absurd (true≢false (sym is))

    own_given : NobodyStarts start → (e : TxId × Transaction) → IsIn e s.tc.live → SaysOf start member log e
        → coordinator_member e.0 ≡ member → IsGiven (IsGivenUp start logs) e.0 e.1.phase
    own_given nobody e inside says own = record {
      aborting = λ is.
          subst (λ (m : Member). has_gone_back start m e.0 (logs (tc_of start m)) ≡ true) (sym own)
          (aborted_back nobody log stands.of.once e inside is);
      decided = λ is given.
          true≢false
          (sym (subst (λ (m : Member). has_gone_back start m e.0 (logs (tc_of start m)) ≡ true) own given)
          ∙ not_back e.0 e.1 e.1.phase says is);
    }

    -- who is aborted is given up, and who is decided isn't
    pub all_given : NobodyStarts start
        → Each (λ (e : TxId × Transaction). IsGiven (IsGivenUp start logs) e.0 e.1.phase) s.tc.live
    all_given nobody =
        each_from (λ (e : TxId × Transaction). IsGiven (IsGivenUp start logs) e.0 e.1.phase) s.tc.live
        (λ e inside.
        own_given nobody e inside (each_in (SaysOf start member log) e s.tc.live stands.says inside)
        (each_in (λ (e : TxId × Transaction). coordinator_member e.0 ≡ member) e s.tc.live stands.of.own inside))

    answered_in : (tx : TxId) (t : Transaction) (phase : Phase) → SaysIn start member log tx t phase
        → may_ask phase ≡ false → t.asked ≡ None
    answered_in tx t Open says is = absurd (true≢false is)
    answered_in tx t Verifying says is = says.0
    answered_in tx t (Committing epoch awaited) says is = says.0
    answered_in tx t (Completing epoch awaited) says is = says.0
    answered_in tx t (Aborting why verifying awaited) says is = absurd (true≢false is)

    -- and who neither takes operations nor is aborted has none unanswered
    pub all_answered : AreAnswered s
    all_answered =
        each_map (SaysOf start member log) (λ (e : TxId × Transaction). IsAnsweredIn e.1) s.tc.live
        (λ e says. answered_in e.0 e.1 e.1.phase says) stands.says
