use Rattle.std.proofs.Common.{sym, ◌∙◌}
use Rattle.trace_merge.proofs.ClosedLemmas.{where_none, where_some}
use Rattle.trace_merge.proofs.closed.is_closed.Goals as goal

pub returns-in-None-clause-closed : goal.returns-in-None-clause-closed
returns-in-None-clause-closed c = λ start made same.
    where_none c.args.logs.now c.args.cut.now start made same (sym c.first_fault.ensures ∙ c.in-None.is)

pub returns-in-Some-clause-closed : goal.returns-in-Some-clause-closed
returns-in-Some-clause-closed c = λ start made same.
    where_some c.args.logs.now c.args.cut.now start made same c.in-Some.fault (sym c.first_fault.ensures ∙ c.in-Some.is)
