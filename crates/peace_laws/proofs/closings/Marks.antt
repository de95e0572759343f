-- A step of a closing stops its host only where the numbers of epochs are used up, and decides nothing.
use Rattle.std.proofs.Common.{◌≡◌, List, [], ◌∷◌, ℕ, false, refl, ap, ap₂, sym, ◌∙◌, subst}
use Rattle.std.specs.Prelude.{◌||◌}
use Rattle.std.specs.List.{list_any}
use Rattle.node_core.specs.declared.host.Host as plain
use Rattle.node_views.specs.Blocks.{parts_row}
use Rattle.node_views.specs.Row.{is_stop, with_parts}
use Rattle.node_views.specs.declared.host_body.HostBody as host
use Rattle.run_theory.specs.Lists.{Each}
use Rattle.sig_core.specs.declared.mark.Mark.{Mark}
use Rattle.sig_core.specs.declared.mark.Mark.TheVariants as mark
use Rattle.sig_core.specs.declared.outcome.StopCause.TheVariants.{Clock}
use Rattle.sig_core.specs.declared.reply.ApiReply.{ApiReply}
use Rattle.sig_core.specs.declared.signal.Signal.{Signal}
use Rattle.sig_core.specs.Step.{Step}
use Rattle.world_core.specs.Start.{Start}
use Rattle.world_views.specs.Machine.{step_by, stops_by}
use Rattle.peace_laws.specs.Alike.{AreNear}
use Rattle.peace_laws.specs.Laws.{is_spent}
use Rattle.peace_laws.specs.Steps.{ComesForClosing}
use Rattle.peace_laws.proofs.closings.Ease.{closings_for_blocks, near_parts_by, near_row}
use Rattle.peace_laws.proofs.closings.Steps.{parts_near}
use Rattle.peace_laws.proofs.closings.MasterNear.{IsClosingMark}
use Rattle.peace_laws.proofs.lives.Stands.{IsBelow}

stop_spent : (m : Mark) → IsClosingMark m → is_stop m ≡ is_spent m
stop_spent (mark.Stopped Clock) is = refl
stop_spent (mark.Closed epoch) is = refl
stop_spent (mark.Durable epoch) is = refl
stop_spent m is = absurd is

stops_spent : (marks : List Mark) → Each IsClosingMark marks → list_any is_stop marks ≡ list_any is_spent marks
stops_spent [] all = refl
stops_spent (m ∷ marks) all = ap₂ (λ a b. a || b) (stop_spent m all.0) (stops_spent marks all.1)

below : (epoch : ℕ) (m : Mark) → IsClosingMark m → IsBelow epoch m
below epoch (mark.Stopped Clock) is = tt
below epoch (mark.Closed closed) is = tt
below epoch (mark.Durable closed) is = tt
below epoch m is = absurd is

pub all_below : (epoch : ℕ) (marks : List Mark) → Each IsClosingMark marks → Each (IsBelow epoch) marks
all_below epoch [] all = tt
all_below epoch (m ∷ marks) all = (below epoch m all.0, all_below epoch marks all.1)

module _ (start : Start) (h : ℕ) (given : List ApiReply) (s : host.HostBody) (other : plain.Host) (x : Signal)
    (near : AreNear start given s other) (comes : ComesForClosing start h x) where
  same_marks : (step_by h s x).effects.marks ≡ (parts_row s.parts x).effects.marks
  same_marks =
      ap (λ (t : Step host.HostBody). t.effects.marks)
      (near_row start h given s other x near comes.fine comes.view (closings_for_blocks h x comes.closing))

  only : Each IsClosingMark (parts_row s.parts x).effects.marks
  only = (parts_near start h given s other x near comes).only

  pub step_marks : Each IsClosingMark (step_by h s x).effects.marks
  step_marks = subst (Each IsClosingMark) (sym same_marks) only

  -- where they aren't used up it goes on, and does what its parts do
  module _ (unspent : list_any is_spent (step_by h s x).effects.marks ≡ false) where
    pub goes_on : stops_by (step_by h s x).effects.marks ≡ false
    goes_on = stops_spent (step_by h s x).effects.marks step_marks ∙ unspent

    pub does : step_by h s x ≡ with_parts s (parts_row s.parts x)
    does =
        near_parts_by start h given s other x near comes.fine comes.view (closings_for_blocks h x comes.closing)
        (sym (ap stops_by same_marks) ∙ goes_on)
