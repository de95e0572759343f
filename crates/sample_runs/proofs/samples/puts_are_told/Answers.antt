use Rattle.sample_runs.proofs.SamplePut.{sample_put}
use Rattle.sample_runs.proofs.samples.puts_are_told.Goals as goal

pub returns : goal.returns
returns c = sample_put
