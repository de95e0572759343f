use Rattle.std.proofs.Common.{sym, ◌∙◌}
use Rattle.shell_top.proofs.EndLemmas.{nothing_more_printed}
use Rattle.shell_top.proofs.run.finish.Goals as goal

pub returns-then-is_cut_short-clause-printed : goal.returns-then-is_cut_short-clause-printed
returns-then-is_cut_short-clause-printed g c =
    nothing_more_printed c.args.meant (g.K.Sink.written c.args.sink.now)
    (sym c.is_cut_short.ensures ∙ c.if-is_cut_short.true)
