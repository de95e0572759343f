use Rattle.world_views.specs.WorldOf.{whole_of}
use Rattle.trace_check.proofs.StepLemmas.{picked_ok}
use Rattle.trace_check.proofs.play.pick.Goals as goal

pub returns : goal.returns
returns c =
    picked_ok c.schedule.result c.told.result (whole_of c.args.world.now) (whole_of c.schedule.new.self) c.args.pick
    c.told.ensures c.schedule.ensures.picked c.schedule.ensures.right
