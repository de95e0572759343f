use Rattle.std.proofs.Common.{arith, subst}
use Rattle.std.specs.Prelude.{IfOk}
use Rattle.std.proofs.lemmas.Bool.Decides.{nat_tests}
use Rattle.sig_core.specs.declared.signal.Signal.{Signal}
use Rattle.world_views.specs.WorldOf.{whole_of}
use Rattle.trace_check.specs.Playing.{Did}
use Rattle.trace_check.proofs.StepLemmas.{own_ok}
use Rattle.trace_check.proofs.play.play.Goals as goal

pub returns-then-signal-host : goal.returns-then-signal-host
returns-then-signal-host c = λ start sound.
    let w = whole_of c.args.world.now in
    let t = whole_of c.play_own.new.world in
    subst (λ (x : Signal). IfOk c.play_own.result (λ why. Did start w c.args.host.0 x t why)) c.get-signal.ensures
    (own_ok c.play_own.result w t c.args.host.0 c.get-signal.result.now
    (grind (arith, nat_tests, c.if-signal-host.true)) c.play_own.ensures start sound)
