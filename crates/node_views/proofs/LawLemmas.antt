-- The steps of a host, test by test.
use Rattle.std.proofs.Common.{◌≡◌, Bool, true, false, List, [], refl, ap, sym, ◌∙◌, arith}
use Rattle.std.specs.Prelude.{is_some, Option}
use Rattle.std.specs.List.{list_any}
use Rattle.sig_core.specs.declared.outcome.StopCause.{StopCause}
use Rattle.sig_core.specs.declared.outs.Outgoing.{Outgoing}
use Rattle.sig_core.specs.declared.signal.Body.{Body}
use Rattle.sig_core.specs.declared.signal.Body.TheVariants.{Host}
use Rattle.sig_core.specs.declared.signal.Signal.{Signal}
use Rattle.sig_core.specs.declared.signal.host.HostSignal.TheVariants.{Kill, Cut, Closed}
use Rattle.node_views.specs.Laws.{CalmHostsLeaveItToBlocks, IsCalm, MalformedSignalsChangeNothing}
use Rattle.node_views.specs.Laws.{InstalledViewsGiveWalksUp, StoppingHostsAreSilent, is_own}
use Rattle.node_views.specs.Blocks.{stop_at}
use Rattle.node_views.specs.Row.{blocks_row, counted_row, counted_stop, headed_if, headed_row, headed_stop}
use Rattle.node_views.specs.Row.{headed_stop_if, host_row, host_table, hushed, is_stop, passed_if, passed_row}
use Rattle.node_views.specs.Row.{passed_stop}
use Rattle.node_views.specs.Row.{passed_stop_if, table_stop, taken_if, unless_stopped}
use Rattle.node_views.specs.WellFormed.{is_well_formed}
use Rattle.node_views.specs.declared.host_body.HostBody as hosts
use Rattle.node_views.proofs.StopWalk.{counted_stops}

theirs : (s : hosts.HostBody) (x : Signal) (body : Body) → is_own body ≡ false → host_table s x body ≡ blocks_row s x
theirs s x (Host (Kill after)) is = grind arith
theirs s x (Host (Cut node first)) is = grind arith
theirs s x (Host (Closed cause)) is = grind arith
theirs s x body is = refl

passes : (s : hosts.HostBody) (x : Signal) → IsCalm s x → passed_row s x ≡ blocks_row s x
unfolding passed_row
passes s x calm = ap (passed_if s x) calm.passes ∙ theirs s x x.body calm.theirs

goes_on : (s : hosts.HostBody) (x : Signal) → IsCalm s x → headed_row s x ≡ blocks_row s x
unfolding headed_row
goes_on s x calm = ap (headed_if s x) calm.same ∙ passes s x calm

-- and where it stops they stop it
theirs_stop : (s : hosts.HostBody) (x : Signal) (body : Body) → is_own body ≡ false
    → table_stop s x body ≡ stop_at s.parts x
theirs_stop s x (Host (Kill after)) is = grind arith
theirs_stop s x (Host (Cut node first)) is = grind arith
theirs_stop s x (Host (Closed cause)) is = grind arith
theirs_stop s x body is = refl

passes_stop : (s : hosts.HostBody) (x : Signal) → IsCalm s x → passed_stop s x ≡ stop_at s.parts x
unfolding passed_stop
passes_stop s x calm = ap (passed_stop_if s x) calm.passes ∙ theirs_stop s x x.body calm.theirs

goes_on_stop : (s : hosts.HostBody) (x : Signal) → IsCalm s x → headed_stop s x ≡ stop_at s.parts x
unfolding headed_stop
goes_on_stop s x calm = ap (headed_stop_if s x) calm.same ∙ passes_stop s x calm

pub calm_hosts_leave_it_to_blocks : CalmHostsLeaveItToBlocks
unfolding host_row
calm_hosts_leave_it_to_blocks s x calm =
    ap (taken_if s x) calm.fine
    ∙ ap (λ left. hushed (is_some (counted_stop s x left)) (counted_row s x left)) calm.lives
    ∙ ap (λ (o : Option StopCause). hushed (is_some o) (headed_row s x)) (goes_on_stop s x calm)
    ∙ ap (hushed (is_some (stop_at s.parts x))) (goes_on s x calm)

silent : (sends : List Outgoing) (stops : Bool) → stops ≡ true → unless_stopped sends stops ≡ []
silent sends true is = refl
silent sends false is = grind arith

silent_if : (s : hosts.HostBody) (x : Signal) (fine : Bool) → list_any is_stop (taken_if s x fine).effects.marks ≡ true
    → (taken_if s x fine).effects.sends ≡ []
silent_if s x true stops = silent _ _ (sym (counted_stops s x s.standing.left) ∙ stops)
silent_if s x false is = grind arith

pub stopping_hosts_are_silent : StoppingHostsAreSilent
unfolding host_row
stopping_hosts_are_silent s x stops = silent_if s x (is_well_formed s.standing.shape x) stops

pub malformed_signals_change_nothing : MalformedSignalsChangeNothing
unfolding host_row
malformed_signals_change_nothing s x is = ap (taken_if s x) is

pub installed_views_give_walks_up : InstalledViewsGiveWalksUp
installed_views_give_walks_up p view = (refl, refl)
