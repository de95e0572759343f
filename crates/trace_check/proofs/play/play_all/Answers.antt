use Rattle.std.proofs.Common.{refl}
use Rattle.world_views.specs.WorldOf.{whole_of}
use Rattle.trace_check.proofs.AllLemmas.{goes_so, stops_so}
use Rattle.trace_check.proofs.StepLemmas.{at_world}
use Rattle.trace_check.proofs.play.play_all.Goals as goal

pub loop-place-init : goal.loop-place-init
loop-place-init c = record {
  world = c.requires;
  here = λ start sound. record { sound = sound; led = refl };
}

pub loop-place-preserved : goal.loop-place-preserved
loop-place-preserved c = record {
  world = at_world (whole_of c.loop-place.world) (whole_of c.play_at.new.world) c.args.logs.now _
      c.in_ok-fault.field-0 c.in_ok-fault.ensures c.loop-place.invariant.world;
  here = λ start sound.
      let here = c.loop-place.invariant.here start sound in
      goes_so start c.args.logs.now c.args.run.now c.loop-place.place-index _ c.in_ok-fault.field-0
      (whole_of c.args.world.now) (whole_of c.loop-place.world) (whole_of c.play_at.new.world) c.loop-place-test.true
      here c.in-None.is (c.in_ok-fault.ensures start here.sound);
}

pub returns-in-Some : goal.returns-in-Some
returns-in-Some c = λ start sound.
    let here = c.loop-place.invariant.here start sound in
    stops_so start c.args.logs.now c.args.run.now c.loop-place.place-index _ c.in_ok-fault.field-0 c.in-Some.fault
    (whole_of c.args.world.now) (whole_of c.loop-place.world) (whole_of c.play_at.new.world) c.loop-place-test.true
    here c.in-Some.is (c.in_ok-fault.ensures start here.sound)
