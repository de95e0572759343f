use Rattle.std.proofs.Common.{arith}
use Rattle.world_views.specs.WorldOf.{whole_of}
use Rattle.trace_check.proofs.StepLemmas.{stopped_ok}
use Rattle.trace_check.proofs.play.stop.Goals as goal

pub returns-in-Killed : goal.returns-in-Killed
returns-in-Killed c =
    stopped_ok c.pick.result (whole_of c.args.world.now) (whole_of c.pick.new.world) c.args.host c.args.cause
    c.in-Killed.is (omega (arith, c.if-host-eq0.false)) c.requires.runs c.pick.ensures
