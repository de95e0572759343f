use Rattle.sample_runs.proofs.SampleWait.{sample_wait}
use Rattle.sample_runs.proofs.samples.waits_are_granted.Goals as goal

pub returns : goal.returns
returns c = sample_wait
