use Rattle.std.proofs.Common.{subst}
use Rattle.world_views.specs.declared.schedule.Pick.TheVariants.{Cut}
use Rattle.world_views.specs.WorldOf.{whole_of}
use Rattle.trace_check.specs.Playing.{DidPick}
use Rattle.trace_check.proofs.StepLemmas.{cuts_wrongly}
use Rattle.trace_check.proofs.play.cut.Goals as goal

pub returns-in-Some : goal.returns-in-Some
returns-in-Some c = λ first start sound.
    let w = whole_of c.args.world.now in
    let t = whole_of c.pick.new.world in
    cuts_wrongly c.in-Some.field-0 w t c.args.host c.args.node first start c.requires.runs sound
    (subst (λ why. DidPick start w (Cut c.args.host c.args.node) t why) c.in-Some.is
    (c.in_ok-pick.ensures start sound))

pub returns-in-None : goal.returns-in-None
returns-in-None c = λ first start sound.
    subst (λ why. DidPick start (whole_of c.args.world.now) (Cut c.args.host c.args.node) (whole_of c.pick.new.world)
    why)
    c.in-None.is (c.in_ok-pick.ensures start sound)
