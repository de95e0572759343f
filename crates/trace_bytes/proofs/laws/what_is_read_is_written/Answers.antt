use Rattle.trace_bytes.proofs.LivesTaken.{read_is_written}
use Rattle.trace_bytes.proofs.laws.what_is_read_is_written.Goals as goal

pub returns : goal.returns
returns c = read_is_written
