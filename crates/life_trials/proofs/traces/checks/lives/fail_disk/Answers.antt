use Rattle.world_views.specs.WorldOf.{whole_of}
use Rattle.life_trials.proofs.Worlds.{driven_ok}
use Rattle.life_trials.proofs.traces.checks.lives.fail_disk.Goals as goal

pub returns : goal.returns
returns c =
    driven_ok c.fail_disk.result (whole_of c.args.world.now) (whole_of c.fail_disk.new.self)
    c.fail_disk.ensures.driven c.requires
