use Rattle.std.proofs.Common.{refl, ap, ◌+◌}
use Rattle.world_views.specs.WorldOf.{whole_of}
use Rattle.world_views.proofs.ScheduleLemmas.{goes_further, stops, stops_right}
use Rattle.world_views.proofs.WorldLemmas.{under_way}
use Rattle.world_views.proofs.world.World.schedule.Goals as goal

pub loop-pick-init : goal.loop-pick-init
loop-pick-init c = record {
  here = record { way = under_way (whole_of c.args.self.now) c.requires; led = refl };
  count = refl;
}

pub loop-pick-preserved : goal.loop-pick-preserved
loop-pick-preserved c =
    record {
      here = goes_further (whole_of c.args.self.now) (whole_of c.loop-pick.self) (whole_of c.pick.new.self)
          c.args.picks.now c.loop-pick.pick-index _
          c.loop-pick-test.true c.loop-pick.invariant.here c.in-Ok.ensures;
      count = ap (λ k. k + 1) c.loop-pick.invariant.count;
    }

pub returns-in-Err-clause-picked : goal.returns-in-Err-clause-picked
returns-in-Err-clause-picked c =
    stops (whole_of c.args.self.now) (whole_of c.loop-pick.self) (whole_of c.pick.new.self) c.args.picks.now
    c.loop-pick.pick-index c.loop-pick.at _ c.in-Err.fault
    c.loop-pick-test.true c.loop-pick.invariant.count c.loop-pick.invariant.here c.in-Err.ensures

pub returns-in-Err-clause-right : goal.returns-in-Err-clause-right
returns-in-Err-clause-right c =
    stops_right (whole_of c.args.self.now) (whole_of c.loop-pick.self) (whole_of c.pick.new.self) c.args.picks.now
    c.loop-pick.pick-index c.loop-pick.at _ c.in-Err.fault
    c.loop-pick.invariant.here c.in-Err.ensures
