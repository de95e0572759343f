-- The main part of a node that is alone in its ring misses no heartbeats: a round changes nothing.
use Rattle.std.proofs.Common.{◌≡◌, ℕ, [], ap, ◌∙◌}
use Rattle.std.specs.Prelude.{None}
use Rattle.std.specs.List.{list_any}
use Rattle.node_core.specs.declared.host.Host as plain
use Rattle.node_views.specs.Blocks.{in_main, parts_row}
use Rattle.node_views.specs.Parts.{in_qmgr, main_row}
use Rattle.node_views.specs.Row.{is_stop, with_parts}
use Rattle.node_views.specs.declared.host_body.HostBody as host
use Rattle.node_views.specs.declared.main_part.MainPart.{MainPart}
use Rattle.node_views.specs.declared.parts.Parts.{Parts}
use Rattle.node_views.specs.declared.parts.Parts.TheVariants.{Main}
use Rattle.qmgr_block.specs.Qmgr.{qmgr_row, qmgr_table}
use Rattle.qmgr_block.specs.Ring.{round_by, round_row, sides}
use Rattle.qmgr_block.specs.State.{QmgrState, beside}
use Rattle.qmgr_block.specs.declared.ring.Sides.{Sides}
use Rattle.sig_core.specs.Step.{Step, stay}
use Rattle.sig_core.specs.declared.place.BlockId.{BlockId}
use Rattle.sig_core.specs.declared.place.BlockId.TheVariants.{Qmgr}
use Rattle.sig_core.specs.declared.signal.Body.TheVariants.{Host}
use Rattle.sig_core.specs.declared.signal.Signal.{Signal}
use Rattle.sig_core.specs.declared.signal.host.HostSignal.TheVariants.{Round}
use Rattle.world_core.specs.Start.{Start}
use Rattle.world_views.specs.Machine.{step_by}
use Rattle.calm_laws.specs.Alike.{AreAlike}
use Rattle.calm_laws.specs.Resting.{IsResting, IsRestingPart}
use Rattle.calm_laws.specs.Steps.{ComesCalmly}
use Rattle.calm_laws.proofs.plain_steps.Ease.{ease_parts}
use Rattle.calm_laws.proofs.plain_steps.Resting.{ring, same_ring}

module _ (start : Start) (h most : ℕ) (x : Signal) (none : ring start h ≡ record { next = None; before = None })
    (to : x.to.block ≡ Qmgr) (is : x.body ≡ Host Round) where
  lone_membership : (p : MainPart) → IsResting start h most p → qmgr_row p.qmgr x ≡ stay p.qmgr
  unfolding round_row
  lone_membership p rests =
      ap (qmgr_table p.qmgr x.from.0 x.member x.view.number) is
      ∙ ap (λ (around : Sides). beside p.qmgr.promises (round_by p.qmgr.known around.next around.before))
      (ap (λ (q : QmgrState). sides q.known) rests.is ∙ same_ring start h rests.missed ∙ none)

  lone_parts : (parts : Parts) → IsRestingPart start h most parts → parts_row parts x ≡ stay parts
  unfolding main_row
  lone_parts (Main p) rests =
      ap (λ (of : BlockId). in_main (main_row p of x)) to
      ∙ ap (λ (t : Step QmgrState). in_main (in_qmgr p t)) (lone_membership p rests)
  lone_parts parts rests = absurd rests

  pub lone_round : (s : host.HostBody) (other : plain.Host) → AreAlike start [] s other → ComesCalmly start h x
      → IsRestingPart start h most s.parts → step_by h s x ≡ stay s
  lone_round s other alike comes rests =
      let same : parts_row s.parts x ≡ stay s.parts = lone_parts s.parts rests in
      ease_parts start h [] s other x alike comes
      (ap (λ (t : Step Parts). list_any is_stop t.effects.marks) same)
      ∙ ap (with_parts s) same
