-- What a step of a host comes to for the epochs of a member, and for its master: views are installed, and they may take
-- the signal of the step.
use Rattle.std.proofs.Common.{◌≡◌, ◌≤◌, ◌<◌, ◌⊎◌, ℕ, true, refl, sym, ap, subst, ◌∙◌, inl, inr, arith}
use Rattle.std.specs.Prelude.{Some}
use Rattle.frag_map.specs.Layout.{Layout}
use Rattle.sig_core.specs.declared.place.BlockId.{BlockId}
use Rattle.sig_core.specs.declared.place.BlockId.TheVariants as block
use Rattle.sig_core.specs.declared.signal.Signal.{Signal}
use Rattle.sig_core.specs.declared.view.Shape.{Shape}
use Rattle.sig_core.specs.declared.view.View.{View}
use Rattle.dih_node.specs.Dih.{dih_row}
use Rattle.dih_node.specs.Orders as dih
use Rattle.dih_node.specs.State.{DihState}
use Rattle.gcp_master.specs.Master.{master_row}
use Rattle.gcp_master.specs.Resume.{in_view}
use Rattle.gcp_master.specs.State.{MasterState}
use Rattle.node_views.specs.Blocks.{fence_at, parts_entered, parts_row, settled_at}
use Rattle.node_views.specs.declared.main_part.MainPart.{MainPart}
use Rattle.node_views.specs.declared.parts.Parts.{Parts}
use Rattle.node_views.specs.declared.parts.Parts.TheVariants as part
use Rattle.node_views.specs.declared.tc_part.TcPart.{TcPart}
use Rattle.node_views.specs.Fence.{is_fenced}
use Rattle.node_views.specs.Parts.{main_row, main_settled, tc_row}
use Rattle.view_laws.proofs.eras.Rises.{Follows, entered_follows, settled_above}
use Rattle.epoch_laws.specs.Members.{dih_in, master_in}
use Rattle.moment_laws.proofs.MomentWalk.{Moves, Passes, entering, leaves, plainly, settles, takes}
use Rattle.moment_laws.proofs.PartTaken.{IsTaken, passed_taken}

-- Epochs stay, or the view of a header is installed; then they may take the signal.
abbrev pub EpochsTake : Shape → DihState → Signal → View → DihState → Type 0
EpochsTake shape s x seen now = (now ≡ s) ⊎ (IsTaken shape block.Dih x seen × (now ≡ (dih_row s x).state))

pub record EpochsMove (shape : Shape) (s : DihState) (x : Signal) (seen : View) (now : DihState) : Type 0 where
  pub between : DihState
  pub entered : (between ≡ s) ⊎ (between ≡ (dih.install_row s x.view.number).state)
  pub comes : EpochsTake shape between x seen now

-- So it is with a master; a view on which the membership beside it settles is installed.
abbrev pub MasterTakes : Shape → MasterState → View → Signal → View → MasterState → Type 0
MasterTakes shape s view x seen now =
    (now ≡ s)
    ⊎ (((now ≡ in_view s seen) × (view.number < seen.number))
    ⊎ (IsTaken shape block.GcpMaster x seen × (now ≡ (master_row s x).state)))

pub record MasterMoves (shape : Shape) (s : MasterState) (view : View) (x : Signal) (seen : View) (now : MasterState)
    : Type 0
  where
    pub between : MasterState
    pub entered : (between ≡ s) ⊎ ((between ≡ in_view s x.view) × (view.number < seen.number))
    pub comes : MasterTakes shape between view x seen now

-- the epochs of a part
tc_takes : (p : TcPart) (to : BlockId) (x : Signal)
    → ((tc_row p to x).state.dih ≡ p.dih) ⊎ ((to ≡ block.Dih) × ((tc_row p to x).state.dih ≡ (dih_row p.dih x).state))
unfolding tc_row
tc_takes p block.Tc x = inl refl
tc_takes p block.Takeover x = inl refl
tc_takes p block.Dih x = inr (refl, refl)
tc_takes p _ x = inl refl

module _ (other : DihState) where
  epochs_taken : (parts : Parts) (x : Signal)
      → (dih_in other (parts_row parts x).state ≡ dih_in other parts)
      ⊎ ((x.to.block ≡ block.Dih) × (dih_in other (parts_row parts x).state ≡ (dih_row (dih_in other parts) x).state))
  epochs_taken (part.Tc p) x = tc_takes p x.to.block x
  epochs_taken (part.Shell p) x = inl refl
  epochs_taken (part.Main p) x = inl refl
  epochs_taken (part.Ldm p) x = inl refl

  epochs_entered : (parts : Parts) (view : View)
      → (dih_in other (parts_entered parts view).state ≡ dih_in other parts)
      ⊎ (dih_in other (parts_entered parts view).state ≡ (dih.install_row (dih_in other parts) view.number).state)
  epochs_entered (part.Tc p) view = inr refl
  epochs_entered (part.Shell p) view = inl refl
  epochs_entered (part.Main p) view = inl refl
  epochs_entered (part.Ldm p) view = inl refl

  -- a part with epochs settles on no view
  epochs_settled : (parts : Parts) (x : Signal) (view : View) → settled_at parts x ≡ Some view
      → dih_in other (parts_entered (parts_row parts x).state view).state ≡ dih_in other parts
  epochs_settled (part.Main p) x view is = refl
  epochs_settled (part.Tc p) x view is = absurd cc
  epochs_settled (part.Shell p) x view is = absurd cc
  epochs_settled (part.Ldm p) x view is = absurd cc

  module _ (shape : Shape) (x : Signal) where
    passes_epochs : (parts : Parts) (view : View) (now : Parts) (seen : View)
        → (is_fenced x ≡ true → x.to.block ≡ block.Dih → view.number ≤ fence_at parts x.to.block view.number)
        → Passes shape parts view x now seen → EpochsTake shape (dih_in other parts) x seen (dih_in other now)
    passes_epochs parts view now seen fenced (leaves is stands) = inl (ap (dih_in other) is)
    passes_epochs parts view now seen fenced (settles passed settled is) =
        inl (ap (dih_in other) is ∙ epochs_settled parts x seen settled)
    passes_epochs parts view now seen fenced (takes passed none is stands) = by (epochs_taken parts x)
      where
        by : (dih_in other (parts_row parts x).state ≡ dih_in other parts)
            ⊎ ((x.to.block ≡ block.Dih) × (dih_in other (parts_row parts x).state ≡
            (dih_row (dih_in other parts) x).state))
            → EpochsTake shape (dih_in other parts) x seen (dih_in other now)
        by (inl same) = inl (ap (dih_in other) is ∙ same)
        by (inr row) =
            inr (
              passed_taken shape block.Dih parts view x seen stands fenced passed row.0,
              ap (dih_in other) is ∙
                  row.1,
            )

    pub epochs_move : (parts : Parts) (view : View) (now : Parts) (seen : View)
        → view.number ≤ fence_at parts block.Dih view.number
        → x.view.number ≤ fence_at (parts_entered parts x.view).state block.Dih x.view.number
        → Moves shape parts view x now seen → EpochsMove shape (dih_in other parts) x seen (dih_in other now)
    epochs_move parts view now seen fence behind (plainly passes) = record {
      between = dih_in other parts;
      entered = inl refl;
      comes =
          passes_epochs parts view now seen
          (λ is to. subst (λ at. view.number ≤ fence_at parts at view.number) (sym to) fence) passes;
    }
    epochs_move parts view now seen fence behind (entering above passes) = record {
      between = dih_in other (parts_entered parts x.view).state;
      entered = epochs_entered parts x.view;
      comes =
          passes_epochs (parts_entered parts x.view).state x.view now seen
          (λ is to.
          subst (λ at. x.view.number ≤ fence_at (parts_entered parts x.view).state at x.view.number) (sym to) behind)
          passes;
    }

-- the master of a part
main_takes : (p : MainPart) (to : BlockId) (x : Signal)
    → ((main_row p to x).state.master ≡ p.master)
    ⊎ ((to ≡ block.GcpMaster) × ((main_row p to x).state.master ≡ (master_row p.master x).state))
unfolding main_row
main_takes p block.Qmgr x = inl refl
main_takes p block.GcpMaster x = inr (refl, refl)
main_takes p _ x = inl refl

main_settles : (p : MainPart) (to : BlockId) (x : Signal) (view : View) → main_settled p to x ≡ Some view
    → (main_row p to x).state.master ≡ p.master
unfolding main_row
main_settles p block.Qmgr x view is = refl
main_settles p block.GcpMaster x view is = absurd cc
main_settles p _ x view is = refl

-- its fence is at the view
master_fence : (parts : Parts) (number : ℕ) → fence_at parts block.GcpMaster number ≡ number
master_fence (part.Tc p) number = refl
master_fence (part.Shell p) number = refl
master_fence (part.Main p) number = refl
master_fence (part.Ldm p) number = refl

module _ (other : MasterState) where
  master_taken : (parts : Parts) (x : Signal)
      → (master_in other (parts_row parts x).state ≡ master_in other parts)
      ⊎ ((x.to.block ≡ block.GcpMaster)
      × (master_in other (parts_row parts x).state ≡ (master_row (master_in other parts) x).state))
  master_taken (part.Main p) x = main_takes p x.to.block x
  master_taken (part.Shell p) x = inl refl
  master_taken (part.Tc p) x = inl refl
  master_taken (part.Ldm p) x = inl refl

  master_entered : (parts : Parts) (view : View)
      → (master_in other (parts_entered parts view).state ≡ master_in other parts)
      ⊎ (master_in other (parts_entered parts view).state ≡ in_view (master_in other parts) view)
  master_entered (part.Main p) view = inr refl
  master_entered (part.Shell p) view = inl refl
  master_entered (part.Tc p) view = inl refl
  master_entered (part.Ldm p) view = inl refl

  master_settled : (parts : Parts) (x : Signal) (view : View) → settled_at parts x ≡ Some view
      → master_in other (parts_entered (parts_row parts x).state view).state ≡ in_view (master_in other parts) view
  master_settled (part.Main p) x view is =
      ap (λ (s : MasterState). in_view s view) (main_settles p x.to.block x view is)
  master_settled (part.Tc p) x view is = absurd cc
  master_settled (part.Shell p) x view is = absurd cc
  master_settled (part.Ldm p) x view is = absurd cc

  module _ (shape : Shape) (x : Signal) (seen : View) where
    passes_master : (parts : Parts) (view : View) (now : Parts) (old : View)
        → (settled_at parts x ≡ Some seen → old.number < seen.number) → Passes shape parts view x now seen
        → MasterTakes shape (master_in other parts) old x seen (master_in other now)
    passes_master parts view now old above (leaves is stands) = inl (ap (master_in other) is)
    passes_master parts view now old above (settles passed settled is) =
        inr (inl (ap (master_in other) is ∙ master_settled parts x seen settled, above settled))
    passes_master parts view now old above (takes passed none is stands) = by (master_taken parts x)
      where
        fenced : is_fenced x ≡ true → x.to.block ≡ block.GcpMaster → view.number ≤ fence_at parts x.to.block view.number
        fenced is to =
            let at : fence_at parts x.to.block view.number ≡ view.number =
            ap (λ (b : BlockId). fence_at parts b view.number) to ∙ master_fence parts view.number in
            omega (arith, at)

        by : (master_in other (parts_row parts x).state ≡ master_in other parts)
            ⊎ ((x.to.block ≡ block.GcpMaster)
            × (master_in other (parts_row parts x).state ≡ (master_row (master_in other parts) x).state))
            → MasterTakes shape (master_in other parts) old x seen (master_in other now)
        by (inl same) = inl (ap (master_in other) is ∙ same)
        by (inr row) =
            inr (inr (
              passed_taken shape block.GcpMaster parts view x seen stands fenced passed row.0,
              ap (master_in other) is ∙ row.1,
            ))

    -- the view in which a host stands rises where another one is installed
    module _ (layout : Layout) where
      passes_rise : (parts : Parts) (view : View) (now : Parts) → Follows layout parts view
          → Passes shape parts view x now seen → view.number ≤ seen.number
      passes_rise parts view now follows (leaves is stands) =
          let same : seen.number ≡ view.number = ap (λ (v : View). v.number) stands in
          omega (arith, same)
      passes_rise parts view now follows (takes passed none is stands) =
          let same : seen.number ≡ view.number = ap (λ (v : View). v.number) stands in
          omega (arith, same)
      passes_rise parts view now follows (settles passed settled is) =
          let above : view.number < seen.number = settled_above layout parts view x seen follows settled in
          omega (arith, above)

      module _ (parts : Parts) (view : View) (now : Parts) (follows : Follows layout parts view) where
        abbrev inside : Parts
        inside = (parts_entered parts x.view).state

        enters_by : view.number < seen.number
            → (master_in other inside ≡ master_in other parts)
            ⊎ (master_in other inside ≡ in_view (master_in other parts) x.view)
            → MasterTakes shape (master_in other inside) view x seen (master_in other now)
            → MasterMoves shape (master_in other parts) view x seen (master_in other now)
        enters_by above (inl same) comes =
            record { between = master_in other inside; entered = inl same; comes = comes }
        enters_by above (inr is) comes =
            record { between = master_in other inside; entered = inr (is, above); comes = comes }

        pub master_moves : Moves shape parts view x now seen
            → MasterMoves shape (master_in other parts) view x seen (master_in other now)
        master_moves (plainly passes) = record {
          between = master_in other parts;
          entered = inl refl;
          comes = passes_master parts view now view (settled_above layout parts view x seen follows) passes;
        }
        master_moves (entering above passes) =
            let rises : x.view.number ≤ seen.number =
            passes_rise inside x.view now (entered_follows layout parts view x.view follows) passes in
            let up : view.number < seen.number = omega (arith, above, rises) in
            enters_by up (master_entered parts x.view)
            (passes_master inside x.view now view (λ settled. up) passes)
