use Rattle.std.proofs.Common.{◌≡◌, drop}
use Rattle.sig_core.specs.Firsts.{first}
use Rattle.api_views.specs.Pending.{lacks}
use Rattle.api_views.proofs.pending.first_stop.Given as goal

-- those that are left have the first
abbrev pub invariant-loop-stop : goal.invariant-loop-stop
invariant-loop-stop l = first (lacks l.view) (drop l.stop-index l.stops) ≡ first (lacks l.view) l.stops
