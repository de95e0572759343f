use Rattle.run_theory.specs.TestMachine.{machine}
use Rattle.run_theory.proofs.Channels.{run_of_channels}
use Rattle.run_theory.proofs.Drops.{channels_of_run}
use Rattle.run_theory.proofs.literal_laws.channels_admit_runs.Goals as goal

pub returns : goal.returns
returns g c = λ t stamped es. (
  λ admits. run_of_channels (machine t) es admits.0 admits.1,
  channels_of_run (machine t)
      stamped es,
)
