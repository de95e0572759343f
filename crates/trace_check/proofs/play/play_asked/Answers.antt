use Rattle.std.proofs.Common.{ap}
use Rattle.sig_core.specs.declared.signal.Body.TheVariants.{Host}
use Rattle.sig_core.specs.declared.signal.host.HostSignal.{HostSignal}
use Rattle.world_views.specs.WorldOf.{whole_of}
use Rattle.trace_check.proofs.StepLemmas.{found_body}
use Rattle.trace_check.proofs.play.play_asked.Goals as goal

pub returns-in-Continue : goal.returns-in-Continue
returns-in-Continue c =
    found_body c.play_work.result (whole_of c.args.world.now) (whole_of c.play_work.new.world) c.args.host.0
    (Host c.args.own.now) _ (ap (λ (s : HostSignal). Host s) c.in-Continue.is) (c.play_work.ensures _)

pub returns-in-Closed : goal.returns-in-Closed
returns-in-Closed c =
    found_body c.stop.result (whole_of c.args.world.now) (whole_of c.stop.new.world) c.args.host.0
    (Host c.args.own.now) _ (ap (λ (s : HostSignal). Host s) c.in-Closed.is) c.stop.ensures

pub returns-in-Cut : goal.returns-in-Cut
returns-in-Cut c =
    found_body c.cut.result (whole_of c.args.world.now) (whole_of c.cut.new.world) c.args.host.0
    (Host c.args.own.now) _ (ap (λ (s : HostSignal). Host s) c.in-Cut.is) (c.cut.ensures _)
