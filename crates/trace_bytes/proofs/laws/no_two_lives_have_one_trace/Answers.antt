use Rattle.trace_bytes.proofs.LivesAgain.{traces_differ}
use Rattle.trace_bytes.proofs.laws.no_two_lives_have_one_trace.Goals as goal

pub returns : goal.returns
returns c = traces_differ
