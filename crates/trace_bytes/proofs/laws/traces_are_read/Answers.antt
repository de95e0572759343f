use Rattle.trace_bytes.proofs.LivesAgain.{traces_read}
use Rattle.trace_bytes.proofs.laws.traces_are_read.Goals as goal

pub returns : goal.returns
returns c = traces_read
