use Rattle.std.proofs.Common.{◌≤◌, ◌-◌, length}
use Rattle.shell_top.specs.Reader.{Reads}
use Rattle.shell_top.proofs.reader.Reader.fill.Given as goal

abbrev pub invariant-reading : goal.invariant-reading
invariant-reading g l = record {
  reads : Reads (g.S.Source.left l.initial.source) (g.S.Source.left l.source) l.initial.self l.self;
  most : length l.initial.self ≤ 1024 → length l.self ≤ 1024;
  steady : g.S.Source.faults l.initial.source ≤ g.S.Source.faults l.source;
}

-- each turn but the last adds a byte, while there are at most 512
abbrev pub decreases-reading : goal.decreases-reading
decreases-reading g l = 1025 - length l.self
