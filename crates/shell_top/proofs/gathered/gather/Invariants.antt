use Rattle.std.proofs.Common.{◌≡◌, ◌≤◌, ◌+◌, ◌-◌, length}
use Rattle.std.specs.Io.KnownBytes.{Consumes}
use Rattle.shell_top.specs.declared.gathered.TheConstants.{CHUNK}
use Rattle.shell_top.proofs.gathered.gather.Given as goal
use Rattle.trace_write.specs.declared.trace.TheConstants.{TRACE_BYTES}

-- what was read is held, and there is room for a byte more
abbrev pub invariant-reading : goal.invariant-reading
invariant-reading g l = record {
  read : Consumes (g.S.Source.left l.initial.source) (g.S.Source.left l.source) l.bytes.items;
  low : length l.bytes.items ≤ TRACE_BYTES;
  chunk : length l.chunk.items ≡ CHUNK;
  steady : g.S.Source.faults l.initial.source ≤ g.S.Source.faults l.source;
}

-- each turn but the last adds a byte
abbrev pub decreases-reading : goal.decreases-reading
decreases-reading g l = TRACE_BYTES + 1 - length l.bytes.items
