use Rattle.shell_top.proofs.WriterLemmas.{writing_fails}
use Rattle.shell_top.proofs.writer.write_all.Goals as goal

-- what was written before the write that failed
pub returns-in-Err-clause-part : goal.returns-in-Err-clause-part
returns-in-Err-clause-part g c =
    writing_fails _ (g.K.Sink.written c.writing.sink) _ _ c.writing.rest.now c.writing.invariant.so_far
    c.in-Err.ensures.bytes
