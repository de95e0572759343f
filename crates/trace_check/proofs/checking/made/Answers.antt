use Rattle.std.proofs.Common.{refl, ap}
use Rattle.sig_core.specs.declared.log.Life.{Life}
use Rattle.world_views.specs.Lives.{start_of}
use Rattle.world_views.specs.WorldOf.{whole_of}
use Rattle.world_views.proofs.WorldLemmas.{begun_world}
use Rattle.trace_check.proofs.AnswerLemmas.{begun, made_so}
use Rattle.trace_check.proofs.checking.made.Goals as goal

pub play_all-played-requires : goal.play_all-played-requires
play_all-played-requires c =
    begun_world (whole_of c.in_ok-world.world) (start_of c.args.shape c.args.life.now) refl
    (begun c.args.shape c.args.life.now c.first_epoch-epoch.result c.as_slice-rows.result.now
    (whole_of c.in_ok-world.world) c.first_epoch-epoch.ensures c.as_slice-rows.ensures c.in_ok-world.ensures)

pub returns : goal.returns
returns c =
    made_so (start_of c.args.shape c.args.life.now) c.args.life.now.logs c.as_slice-told.result.now c.args.run.now
    c.as_slice-places.result.now (whole_of c.in_ok-world.world) (whole_of c.play_all-played.new.world) _
    c.in_ok-why.why refl
    (begun c.args.shape c.args.life.now c.first_epoch-epoch.result c.as_slice-rows.result.now
    (whole_of c.in_ok-world.world) c.first_epoch-epoch.ensures c.as_slice-rows.ensures c.in_ok-world.ensures)
    c.as_slice-told.ensures c.as_slice-places.ensures c.in_ok-why.ensures
    (ap (λ (life : Life). life.logs) c.end_life-again.ensures)
