-- What comes from below a fence is dropped.
use Rattle.std.proofs.Common.{◌≡◌, Bool, true, false, refl, ap, ◌∙◌}
use Rattle.std.specs.Prelude.{◌&&◌, is_some, nat_lt}
use Rattle.sig_core.specs.declared.signal.Signal.{Signal}
use Rattle.sig_core.specs.Step.{stay}
use Rattle.node_views.specs.Blocks.{fence_at}
use Rattle.node_views.specs.Row.{counted_row, counted_stop, headed_if, headed_row, headed_stop, host_row, hushed}
use Rattle.node_views.specs.Row.{is_barred, passed_if, passed_row, taken_if}
use Rattle.node_views.specs.WellFormed.{is_well_formed}
use Rattle.node_views.specs.declared.host_body.HostBody as hosts
use Rattle.view_laws.specs.Fenced.{FencedSignalsChangeNothing, IsFromBelow}

bars : (s : hosts.HostBody) (x : Signal) → IsFromBelow s x → is_barred s x ≡ true
bars s x low =
    ap (λ kind. kind && nat_lt x.view.number (fence_at s.parts x.to.block s.standing.view.number)) low.kind ∙ low.below

drops : (s : hosts.HostBody) (x : Signal) → IsFromBelow s x → passed_row s x ≡ stay s
unfolding passed_row
drops s x low = ap (passed_if s x) (bars s x low)

goes_no_further : (s : hosts.HostBody) (x : Signal) → IsFromBelow s x → headed_row s x ≡ stay s
unfolding headed_row
goes_no_further s x low = ap (headed_if s x) low.same ∙ drops s x low

hushes_none : (s : hosts.HostBody) (stops : Bool) → hushed stops (stay s) ≡ stay s
hushes_none s true = refl
hushes_none s false = refl

taken_nothing : (s : hosts.HostBody) (x : Signal) (fine : Bool) → IsFromBelow s x → taken_if s x fine ≡ stay s
taken_nothing s x true low =
    ap (λ left. hushed (is_some (counted_stop s x left)) (counted_row s x left)) low.lives
    ∙ ap (hushed (is_some (headed_stop s x))) (goes_no_further s x low)
    ∙ hushes_none s (is_some (headed_stop s x))
taken_nothing s x false low = refl

pub fenced_signals_change_nothing : FencedSignalsChangeNothing
unfolding host_row
fenced_signals_change_nothing s x low = taken_nothing s x (is_well_formed s.standing.shape x) low
