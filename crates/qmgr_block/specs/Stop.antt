-- Why the membership has its host stop at a signal: it is ordered to. A mark tells of it too.
use Rattle.std.specs.Prelude.{Option, None, Some}
use Rattle.sig_core.specs.declared.outcome.StopCause.{StopCause}
use Rattle.sig_core.specs.declared.signal.Body.{Body}
use Rattle.sig_core.specs.declared.signal.Body.TheVariants.{Membership}
use Rattle.sig_core.specs.declared.signal.Signal.{Signal}
use Rattle.sig_core.specs.declared.signal.membership.MembershipSignal.{MembershipSignal}
use Rattle.sig_core.specs.declared.signal.membership.MembershipSignal.TheVariants.{StopSet}

abbrev pub membership_stops : MembershipSignal → Option StopCause
membership_stops (StopSet cause) = Some cause
membership_stops signal = None

abbrev pub body_stops : Body → Option StopCause
body_stops (Membership signal) = membership_stops signal
body_stops body = None

abbrev pub qmgr_stops : Signal → Option StopCause
qmgr_stops x = body_stops x.body
