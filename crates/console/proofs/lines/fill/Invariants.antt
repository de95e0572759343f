use Rattle.console.specs.Given.{Reads}
use Rattle.console.proofs.lines.fill.Given as goal

abbrev pub invariant-loop : goal.invariant-loop
invariant-loop g l =
    Reads (g.S.Source.left l.initial.source) (g.S.Source.left l.source) l.initial.held.items l.held.items
