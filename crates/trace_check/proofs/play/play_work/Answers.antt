use Rattle.std.proofs.Common.{ap}
use Rattle.sig_core.specs.declared.signal.Body.TheVariants.{Host}
use Rattle.sig_core.specs.declared.signal.host.HostSignal.TheVariants.{Continue}
use Rattle.sig_core.specs.declared.signal.host.Work.{Work}
use Rattle.world_views.specs.WorldOf.{whole_of}
use Rattle.trace_check.proofs.StepLemmas.{found_body}
use Rattle.trace_check.proofs.play.play_work.Goals as goal

pub returns-in-Request : goal.returns-in-Request
returns-in-Request c = λ at.
    found_body c.ask.result (whole_of c.args.world.now) (whole_of c.ask.new.world) c.args.host.0
    (Host (Continue c.args.work.now at)) _ (ap (λ (work : Work). Host (Continue work at)) c.in-Request.is)
    (c.ask.ensures at)
