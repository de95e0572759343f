use Rattle.world_views.specs.WorldOf.{whole_of}
use Rattle.trace_check.proofs.StepLemmas.{failed_own}
use Rattle.trace_check.proofs.play.fail_disk.Goals as goal

-- it stops as its world says
pub returns : goal.returns
returns c = λ start sound.
    failed_own (whole_of c.args.world.now) (whole_of c.fail_disk.new.self) c.args.host.0 c.args.count start sound
    (c.in_ok-fail_disk.ensures.driven start sound) c.in_ok-fail_disk.ensures.ok
