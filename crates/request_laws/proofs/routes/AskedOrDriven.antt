-- A step of a coordinator, where behind it a transaction is asked for, or driven, if it was so before or the step sends
-- that.
use Rattle.std.proofs.Common.{◌≡◌, ◌⊎◌, Bool, true, List, [], ◌∷◌, inl, inr}
use Rattle.run_theory.specs.Lists.{Each}
use Rattle.run_theory.proofs.Pasts.{each_from}
use Rattle.sig_core.specs.declared.member.TxId.{TxId}
use Rattle.sig_core.specs.declared.outs.Outgoing.{Outgoing}
use Rattle.sig_core.specs.declared.signal.Body.{Body}
use Rattle.sig_core.specs.declared.signal.Body.TheVariants.{Chain}
use Rattle.sig_core.specs.declared.signal.Signal.{Signal}
use Rattle.sig_core.specs.declared.signal.chain.ChainSignal.TheVariants.{Commit, LqhKeyReq}
use Rattle.sig_core.proofs.Keys.{same_tx-self}
use Rattle.frag_map.specs.Layout.{Layout}
use Rattle.tc_block.specs.declared.transaction.Transaction.{Transaction}
use Rattle.tc_block.proofs.LiveSplit.{Live}
use Rattle.tc_views.specs.Coordinator.{coordinator_row}
use Rattle.tc_views.specs.Laws.{AreOnce}
use Rattle.tc_views.specs.State.{CoordinatorState}
use Rattle.request_laws.specs.Drives.{is_commit, is_request}
use Rattle.request_laws.specs.Routes.{CoordinatorHasRoutes, HasRoutesIn}
use Rattle.request_laws.specs.Ways.{is_sent}
use Rattle.request_laws.proofs.routes.Driven.{sent_among}
use Rattle.request_laws.proofs.routes.Sends.{IsMade}
use Rattle.request_laws.proofs.routes.Takeovers.{ChainsAreSome}
use Rattle.request_laws.proofs.routes.Coordinators.{AreAnswered, CoordinatorRoutes, TakesRouted, coordinator_routed}
use Rattle.request_laws.proofs.routes.Turns.{Grows, IsGiven, Renews, has_stays}

-- asked for before, or now, and driven so
abbrev pub OrAsked : (TxId → Type 0) → List Outgoing → TxId → Type 0
OrAsked A sends tx = A tx ⊎ (is_sent (is_request tx) sends ≡ true)

abbrev pub OrDriven : (TxId → Type 0) → List Outgoing → TxId → Type 0
OrDriven D sends tx = D tx ⊎ (is_sent (is_commit tx) sends ≡ true)

module _ (A0 D0 G0 G : TxId → Type 0) (more : (tx : TxId) → G0 tx → G tx) (s : CoordinatorState) (x : Signal) where
  abbrev sends : List Outgoing
  sends = (coordinator_row s x).effects.sends

  grows : Grows A0 D0 G0 (OrAsked A0 sends) (OrDriven D0 sends) G
  grows = record { asked = λ tx is. inl is; driven = λ tx is. inl is; given = more }

  renewed : (live : Live)
      → Each (λ (e : TxId × Transaction). Renews A0 D0 (OrAsked A0 sends) (OrDriven D0 sends) e.0 sends) live
  renewed [] = tt
  renewed (e ∷ live) = (record { asked = λ is. is; driven = λ is. is }, renewed live)

  made : Each (λ (sent : Outgoing). IsMade (OrAsked A0 sends) (OrDriven D0 sends) sent.body) sends
  made =
      each_from (λ (sent : Outgoing). IsMade (OrAsked A0 sends) (OrDriven D0 sends) sent.body) sends
      (λ sent inside. by sent.body (λ p passes. sent_among p sends sent inside passes))
    where
      by : (body : Body) → ((p : Body → Bool) → p body ≡ true → is_sent p sends ≡ true)
          → IsMade (OrAsked A0 sends) (OrDriven D0 sends) body
      by (Chain (LqhKeyReq tx work chain at)) sent = inr (sent (is_request tx) (same_tx-self tx))
      by (Chain (Commit tx key epoch chain at)) sent = inr (sent (is_commit tx) (same_tx-self tx))
      by _ sent = tt

  -- it has its routes behind the step, and what it sends is routed
  pub coordinator_goes : (layout : Layout) → s.tc.layout ≡ layout → ChainsAreSome layout → AreOnce s.tc.live
      → CoordinatorHasRoutes layout A0 D0 G0 s → AreAnswered s → TakesRouted layout A0 D0 G0 s x
      → Each (λ (e : TxId × Transaction). IsGiven G e.0 e.1.phase) (coordinator_row s x).state.tc.live
      → CoordinatorRoutes layout (OrAsked A0 sends) (OrDriven D0 sends) G (coordinator_row s x)
  coordinator_goes layout same some once had answered is given =
      coordinator_routed A0 D0 G0 (OrAsked A0 sends) (OrDriven D0 sends) G grows s x layout same some once had answered
      is (record { sends_own = made; given = given; renews = renewed s.tc.live })

-- what is so of more transactions is so of less
pub has_less : (layout : Layout) (A0 D0 G0 A D G : TxId → Type 0) (s : CoordinatorState) (live : Live)
    → Each (λ (e : TxId × Transaction). (A e.0 → A0 e.0) × (D e.0 → D0 e.0)) live
    → Each (λ (e : TxId × Transaction). IsGiven G e.0 e.1.phase) live
    → Each (λ (e : TxId × Transaction). HasRoutesIn layout A0 D0 G0 s e.0 e.1 e.1.phase) live
    → Each (λ (e : TxId × Transaction). HasRoutesIn layout A D G s e.0 e.1 e.1.phase) live
has_less layout A0 D0 G0 A D G s [] less given all = tt
has_less layout A0 D0 G0 A D G s (e ∷ live) less given all = (
  has_stays layout A0 D0 G0 A D G s e.0 e.1 e.1.phase less.0.0 less.0.1 given.0 all.0,
  has_less layout A0 D0 G0 A D G s live less.1 given.1 all.1,
)
