-- Where a step of a host leads: its blocks and the view that it stands in behind it, whatever it sends.
use Rattle.std.proofs.Common.{◌≡◌, ◌≤◌, ◌<◌, ℕ, List, ◌∷◌, subst}
use Rattle.std.specs.Prelude.{None, Some}
use Rattle.sig_core.specs.declared.outs.Outgoing.{Outgoing}
use Rattle.sig_core.specs.declared.signal.Signal.{Signal}
use Rattle.sig_core.specs.declared.view.Shape.{Shape}
use Rattle.sig_core.specs.declared.view.View.{View}
use Rattle.node_views.specs.Blocks.{parts_entered, parts_row, settled_at}
use Rattle.node_views.specs.declared.host_body.HostBody as hosts
use Rattle.node_views.specs.declared.parts.Parts.{Parts}
use Rattle.world_core.specs.Start.{NobodyStarts, Start}
use Rattle.world_core.specs.Steps.{HostStep}
use Rattle.world_views.specs.Machine.{after, step_after, step_by}
use Rattle.view_laws.specs.Runs.{view_after}
use Rattle.moment_laws.specs.Parts as does
use Rattle.moment_laws.specs.Parts.{Enters, IsPassed, PartsDo, Takes}
use Rattle.moment_laws.proofs.PartSteps.{after_do, parts_do}

-- Blocks are passed the signal or not; a view on which they settle at it is installed.
pub data Passes (shape : Shape) (parts : Parts) (view : View) (x : Signal) (now : Parts) (seen : View) : Type 0 where
  leaves : now ≡ parts → seen ≡ view → Passes shape parts view x now seen
  takes : IsPassed shape parts view x → settled_at parts x ≡ None → now ≡ (parts_row parts x).state → seen ≡ view
      → Passes shape parts view x now seen
  settles : IsPassed shape parts view x → settled_at parts x ≡ Some seen
      → now ≡ (parts_entered (parts_row parts x).state seen).state → Passes shape parts view x now seen

-- The greater view of its header is installed before.
pub data Moves (shape : Shape) (parts : Parts) (view : View) (x : Signal) (now : Parts) (seen : View) : Type 0 where
  plainly : Passes shape parts view x now seen → Moves shape parts view x now seen
  entering : view.number < x.view.number → Passes shape (parts_entered parts x.view).state x.view x now seen
      → Moves shape parts view x now seen

module _ (shape : Shape) (x : Signal) (now : Parts) (seen : View) where
  passes_of : (parts : Parts) (view : View) (sends : List Outgoing) → Takes shape parts view x now seen sends
      → Passes shape parts view x now seen
  passes_of parts view sends (does.leaves same stands none) = leaves same stands
  passes_of parts view sends (does.takes passed none same stands sent) = takes passed none same stands
  passes_of parts view sends (does.settles passed settled same sent) = settles passed settled same

  pub moves_of : (parts : Parts) (view : View) (sends : List Outgoing) → PartsDo shape parts view x now seen sends
      → Moves shape parts view x now seen
  moves_of parts view sends did = by did.enters
    where
      passes : (inside : Parts) (stood : View) → did.between ≡ inside → did.stood ≡ stood
          → Passes shape inside stood x now seen
      passes inside stood same stands =
          subst (λ parts. Passes shape parts stood x now seen) same
          (subst (λ view. Passes shape did.between view x now seen) stands
          (passes_of did.between did.stood did.rest did.takes))

      by : Enters parts view x did.between did.stood did.front → Moves shape parts view x now seen
      by (does.stays same stands none) = plainly (passes parts view same stands)
      by (does.enters above same stands sent) =
          entering above (passes (parts_entered parts x.view).state x.view same stands)

pub step_moves : (x : Signal) (h : ℕ) (s : hosts.HostBody)
    → Moves s.standing.shape s.parts s.standing.view x (step_by h s x).state.parts (step_by h s x).state.standing.view
step_moves x h s =
    let t = step_by h s x in
    moves_of s.standing.shape x t.state.parts t.state.standing.view s.parts s.standing.view t.effects.sends
    (parts_do s x h)

-- a host of a node, and the signal of its step
pub after_moves : (start : Start) (nobody : NobodyStarts start) (h : ℕ) → 1 ≤ h → (log : List HostStep) (e : HostStep)
    → Moves start.shape (after start h log).parts (view_after start h log) e.step.taken
    (after start h (e ∷ log)).parts (view_after start h (e ∷ log))
after_moves start nobody h some log e =
    moves_of start.shape e.step.taken (after start h (e ∷ log)).parts (view_after start h (e ∷ log))
    (after start h log).parts (view_after start h log) (step_after start h log e).effects.sends
    (after_do start nobody h some log e)
