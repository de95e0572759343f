use Rattle.std.proofs.Common.{◌≤◌, length}
use Rattle.shell_top.proofs.WriterLemmas.{IsWriting}
use Rattle.shell_top.proofs.writer.write_all.Given as goal

abbrev pub invariant-writing : goal.invariant-writing
invariant-writing g l = record {
  so_far : IsWriting (g.K.Sink.written l.initial.sink) (g.K.Sink.written l.sink) l.bytes l.rest;
  steady : g.K.Sink.faults l.initial.sink ≤ g.K.Sink.faults l.sink;
}

abbrev pub decreases-writing : goal.decreases-writing
decreases-writing g l = length l.rest
