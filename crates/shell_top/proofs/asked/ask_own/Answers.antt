use Rattle.std.proofs.Common.{refl}
use Rattle.world_views.specs.WorldOf.{whole_of}
use Rattle.shell_top.specs.Asked.{requests_of}
use Rattle.shell_top.proofs.ServedLemmas.{left_unasked, on_err}
use Rattle.shell_top.proofs.asked.ask_own.Goals as goal

pub returns-in_err-new-in-Operate-clause-err : goal.returns-in_err-new-in-Operate-clause-err
returns-in_err-new-in-Operate-clause-err g c =
    on_err c.from_residual.result (left_unasked g.start (requests_of c.args.command.now)
    (whole_of c.args.world.now.world)
    c.args.world.now.world.logs c.requires.1.1.0 refl)
