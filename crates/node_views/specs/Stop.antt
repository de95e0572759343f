-- What the marks of a step tell of a stop. No step looks at them: they are for whoever reads logs.
use Rattle.std.specs.Prelude.{◌≡◌, List, [], ◌∷◌, Option, None, Some}
use Rattle.sig_core.specs.declared.mark.Mark.{Mark}
use Rattle.sig_core.specs.declared.mark.Mark.TheVariants.{Stopped}
use Rattle.sig_core.specs.declared.outcome.StopCause.{StopCause}
use Rattle.sig_core.specs.declared.signal.Signal.{Signal}
use Rattle.node_views.specs.declared.host_body.HostBody as hosts
use Rattle.node_views.specs.Row.{host_row, host_stop}

-- why the host stops by them
abbrev pub stop_in : List Mark → Option StopCause
stop_in [] = None
stop_in (Stopped cause ∷ marks) = Some cause
stop_in (mark ∷ marks) = stop_in marks

-- they tell that a host stops, and why, just where it does
abbrev pub MarksTellOfStops : Type 0
MarksTellOfStops = (s : hosts.HostBody) (x : Signal) → stop_in (host_row s x).effects.marks ≡ host_stop s x
