-- Behind an installation a coordinator has its routes, in the view that is installed.
use Rattle.std.proofs.Common.{◌≡◌, ◌⊎◌, true, false, [], ◌∷◌, inl, inr, refl, ap}
use Rattle.std.specs.Prelude.{None}
use Rattle.run_theory.specs.Lists.{Each}
use Rattle.sig_core.specs.declared.member.TxId.{TxId}
use Rattle.sig_core.specs.declared.view.View.{View}
use Rattle.frag_map.specs.Layout.{Layout, in_view}
use Rattle.tc_block.specs.Doom.{is_among, is_undecided}
use Rattle.tc_block.specs.declared.phase.Phase.{Phase}
use Rattle.tc_block.specs.declared.phase.Phase.TheVariants.{Aborting, Committing, Completing, Open, Verifying}
use Rattle.tc_block.specs.declared.transaction.Transaction.{Transaction}
use Rattle.tc_block.proofs.LiveSplit.{Live}
use Rattle.tc_views.specs.State.{CoordinatorState}
use Rattle.tc_views.specs.Views.{install_row}
use Rattle.view_laws.specs.Sets.{IsPart}
use Rattle.request_laws.specs.Routes.{CoordinatorHasRoutes, HasRoutes, HasRoutesIn}
use Rattle.request_laws.specs.Strays.{HaleKeepTo, IsHale, KeepsTo}
use Rattle.request_laws.proofs.routes.ChainsStay.{NobodyLater, routes_stay}
use Rattle.request_laws.proofs.routes.Turns.{IsGiven}

-- in the view that is installed nothing was asked of the transaction, nor was it driven
pub record IsFresh (A D : TxId → Type 0) (tx : TxId) : Type 0 where
  pub unasked : A tx → ⊥
  pub undriven : D tx → ⊥

module _ (layout : Layout) (view : View) (first : NobodyLater layout.view) (part : IsPart layout.view view)
    (A0 D0 G0 A D G : TxId → Type 0) (s : CoordinatorState) where
  abbrev Had : TxId × Transaction → Type 0
  Had e = HasRoutesIn layout A0 D0 G0 s e.0 e.1 e.1.phase

  abbrev Has : TxId × Transaction → Type 0
  Has e = HasRoutesIn (in_view layout view) A D G (install_row s view).state e.0 e.1 e.1.phase

  abbrev Keeps : TxId × Transaction → Type 0
  Keeps e = IsHale s e → KeepsTo view e.1

  one_has : (e : TxId × Transaction) → Had e → Keeps e → IsFresh A D e.0 → IsGiven G e.0 e.1.phase → Has e
  unfolding install_row
  one_has e had keeps fresh given = by e.1.phase refl had given
    where
      answered : (e.1.asked ≡ None) ⊎ A e.0 → e.1.asked ≡ None
      answered (inl none) = none
      answered (inr asked) = absurd (fresh.unasked asked)

      hale : is_undecided e.1.phase ≡ true → is_among s.doomed e.0 ≡ false → e.1.asked ≡ None
          → HasRoutes layout e.1 → HasRoutes (in_view layout view) e.1
      hale undecided spared none routes =
          routes_stay layout view first part e.1 none
          (keeps (record { undecided = undecided; spared = spared; answered = none })) routes

      by : (phase : Phase) → e.1.phase ≡ phase → HasRoutesIn layout A0 D0 G0 s e.0 e.1 phase → IsGiven G e.0 phase
          → HasRoutesIn (in_view layout view) A D G (install_row s view).state e.0 e.1 phase
      by Open at had given = λ spared on.
          hale (ap is_undecided at) spared (answered on) (had spared (inl (answered on)))
      by Verifying at had given = λ spared on.
          hale (ap is_undecided at) spared (answered on) (had spared (inl (answered on)))
      by (Committing epoch awaited) at had given = (λ driven. absurd (fresh.undriven driven), given.decided refl)
      by (Completing epoch awaited) at had given = (λ driven. absurd (fresh.undriven driven), given.decided refl)
      by (Aborting why verifying awaited) at had given = given.aborting refl

  all_have : (live : Live) → Each Had live → Each Keeps live → Each (λ (e : TxId × Transaction). IsFresh A D e.0) live
      → Each (λ (e : TxId × Transaction). IsGiven G e.0 e.1.phase) live → Each Has live
  all_have [] had keeps fresh given = tt
  all_have (e ∷ live) had keeps fresh given = (
    one_has e had.0 keeps.0 fresh.0 given.0,
    all_have live had.1 keeps.1 fresh.1 given.1,
  )

  -- whatever its transactions: of those that stay as they are the replicas are left
  pub installed_has : CoordinatorHasRoutes layout A0 D0 G0 s → HaleKeepTo view s
      → Each (λ (e : TxId × Transaction). IsFresh A D e.0) s.tc.live
      → Each (λ (e : TxId × Transaction). IsGiven G e.0 e.1.phase) s.tc.live
      → CoordinatorHasRoutes (in_view layout view) A D G (install_row s view).state
  unfolding install_row
  installed_has had keeps fresh given = all_have s.tc.live had keeps fresh given
