use Rattle.std.proofs.Common.{◌∙◌, sym}
use Rattle.world_views.specs.WorldOf.{whole_of}
use Rattle.trace_check.proofs.StepLemmas.{found_body, took_own_ok}
use Rattle.trace_check.proofs.play.play_own.Goals as goal

pub returns-then-not-is_own_work : goal.returns-then-not-is_own_work
returns-then-not-is_own_work c =
    took_own_ok c.take.result (whole_of c.args.world.now) (whole_of c.take.new.world) c.args.host c.args.body.now
    (sym c.is_own_work.ensures ∙ c.if-not-is_own_work.true) c.take.ensures

pub returns-in-Host : goal.returns-in-Host
returns-in-Host c =
    found_body c.play_asked.result (whole_of c.args.world.now) (whole_of c.play_asked.new.world) c.args.host.0
    c.args.body.now _ c.in-Host.is c.play_asked.ensures
