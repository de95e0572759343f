-- Signals from below a fence.
use Rattle.std.specs.Prelude.{◌≡◌, true, false, nat_lt, None}
use Rattle.sig_core.specs.declared.signal.Signal.{Signal}
use Rattle.sig_core.specs.Step.{stay}
use Rattle.node_views.specs.Blocks.{fence_at}
use Rattle.node_views.specs.Fence.{is_fenced}
use Rattle.node_views.specs.Row.{host_row}
use Rattle.node_views.specs.declared.host_body.HostBody as hosts

-- the signal is of a fenced kind, from a view below the fence of the block that it is for, and from none greater than
-- the host's; and the host isn't to be killed
pub record IsFromBelow (s : hosts.HostBody) (x : Signal) : Type 0 where
  pub kind : is_fenced x ≡ true
  pub below : nat_lt x.view.number (fence_at s.parts x.to.block s.standing.view.number) ≡ true
  pub lives : s.standing.left ≡ None
  pub same : nat_lt s.standing.view.number x.view.number ≡ false

-- such a signal changes nothing
abbrev pub FencedSignalsChangeNothing : Type 0
FencedSignalsChangeNothing = (s : hosts.HostBody) (x : Signal) → IsFromBelow s x → host_row s x ≡ stay s
