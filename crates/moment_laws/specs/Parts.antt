-- What a step of a host comes to for its blocks.
use Rattle.std.specs.Prelude.{◌≡◌, ◌≤◌, ◌<◌, true, List, [], ◌++◌, ◌⊎◌, None, Some}
use Rattle.sig_core.specs.declared.outs.Outgoing.{Outgoing}
use Rattle.sig_core.specs.declared.signal.Signal.{Signal}
use Rattle.sig_core.specs.declared.view.Shape.{Shape}
use Rattle.sig_core.specs.declared.view.View.{View}
use Rattle.node_views.specs.Blocks.{fence_at, parts_entered, parts_row, settled_at}
use Rattle.node_views.specs.declared.parts.Parts.{Parts}
use Rattle.node_views.specs.Fence.{is_fenced}
use Rattle.node_views.specs.WellFormed.{is_well_formed}

-- The blocks of a host that stands in this view may take the signal: it is well formed and of no greater view, nor of
-- one below the fence of its block, if it is of a kind that fences stop.
pub record IsPassed (shape : Shape) (parts : Parts) (view : View) (x : Signal) : Type 0 where
  pub sound : is_well_formed shape x ≡ true
  pub low : x.view.number ≤ view.number
  pub fresh : is_fenced x ≡ true → fence_at parts x.to.block view.number ≤ x.view.number

-- The view of the signal is installed in the blocks, if it is greater than the one in which the host stands; or nothing
-- is. This is the view then, and this is sent.
pub data Enters (parts : Parts) (view : View) (x : Signal) (now : Parts) (seen : View)
    (sends : List Outgoing) : Type 0 where
  stays : now ≡ parts → seen ≡ view → sends ≡ [] → Enters parts view x now seen sends
  enters : view.number < x.view.number → now ≡ (parts_entered parts x.view).state → seen ≡ x.view
      → sends ≡ (parts_entered parts x.view).effects.sends → Enters parts view x now seen sends

-- The blocks leave the signal alone, or take it; a view on which the membership settles at it is installed behind.
pub data Takes (shape : Shape) (parts : Parts) (view : View) (x : Signal) (now : Parts) (seen : View)
    (sends : List Outgoing) : Type 0 where
  leaves : now ≡ parts → seen ≡ view → sends ≡ [] → Takes shape parts view x now seen sends
  takes : IsPassed shape parts view x → settled_at parts x ≡ None → now ≡ (parts_row parts x).state → seen ≡ view
      → sends ≡ (parts_row parts x).effects.sends → Takes shape parts view x now seen sends
  settles : IsPassed shape parts view x → settled_at parts x ≡ Some seen
      → now ≡ (parts_entered (parts_row parts x).state seen).state
      → sends ≡ (parts_row parts x).effects.sends ++ (parts_entered (parts_row parts x).state seen).effects.sends
      → Takes shape parts view x now seen sends

-- One behind the other. Of what they send a host sends all, or, where it stops, nothing.
pub record PartsDo (shape : Shape) (parts : Parts) (view : View) (x : Signal) (now : Parts) (seen : View)
    (sends : List Outgoing) : Type 0 where
  pub between : Parts
  pub stood : View
  pub front : List Outgoing
  pub enters : Enters parts view x between stood front
  pub rest : List Outgoing
  pub takes : Takes shape between stood x now seen rest
  pub sent : (sends ≡ front ++ rest) ⊎ (sends ≡ [])
