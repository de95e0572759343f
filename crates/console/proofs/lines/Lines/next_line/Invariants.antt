use Rattle.std.proofs.Common.{◌≡◌, ◌<◌, []}
use Rattle.std.specs.Io.KnownBytes.{Keeps}
use Rattle.console.specs.Lines.{given_of}
use Rattle.console.proofs.lines.Lines.next_line.Given as goal

-- no line was taken yet, and there is room for one
abbrev pub invariant-loop : goal.invariant-loop
invariant-loop g l = record {
  same : Keeps (given_of l.initial.self (g.S.Source.left l.initial.source))
      (given_of l.self (g.S.Source.left l.source));
  none_left : l.self.rest.items ≡ [];
  room : l.self.given < 65536;
  nodes : l.self.nodes ≡ l.initial.self.nodes;
}
