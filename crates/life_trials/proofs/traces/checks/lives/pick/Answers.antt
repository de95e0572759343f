use Rattle.world_views.specs.WorldOf.{whole_of}
use Rattle.world_views.proofs.WorldLemmas.{driven_world}
use Rattle.life_trials.proofs.Worlds.{empty_world, gone_world}
use Rattle.life_trials.proofs.traces.checks.lives.pick.Goals as goal

pub returns-in-Ok : goal.returns-in-Ok
returns-in-Ok c =
    driven_world (whole_of c.args.world.now) (whole_of c.schedule.new.self) c.in-Ok.ensures.right c.requires

pub returns-in-Err-Empty : goal.returns-in-Err-Empty
returns-in-Err-Empty c =
    empty_world c.in-Err-Empty.field-0 _ (whole_of c.args.world.now) (whole_of c.schedule.new.self)
    c.in-Err-Empty.field-0-is c.in-Err-Empty.ensures.right c.requires

pub returns-in-Err-Gone : goal.returns-in-Err-Gone
returns-in-Err-Gone c =
    gone_world c.in-Err-Gone.field-0 _ (whole_of c.args.world.now) (whole_of c.schedule.new.self)
    c.in-Err-Gone.field-0-is c.in-Err-Gone.ensures.right c.requires
