use Rattle.world_views.specs.WorldOf.{whole_of}
use Rattle.trace_check.proofs.StepLemmas.{took_ok}
use Rattle.trace_check.proofs.play.take.Goals as goal

pub returns : goal.returns
returns c =
    took_ok c.pick.result (whole_of c.args.world.now) (whole_of c.pick.new.world) c.args.host c.args.from
    c.requires.runs c.pick.ensures
